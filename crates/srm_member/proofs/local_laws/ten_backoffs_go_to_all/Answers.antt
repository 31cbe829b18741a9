use Rattle.srm_member.proofs.LocalProofs.{ten_backoffs_go_to_all as the_law}
use Rattle.srm_member.proofs.local_laws.ten_backoffs_go_to_all.Goals as goal

pub returns : goal.returns
returns c = the_law
