use Rattle.srm_member.proofs.AdaptingProofs.{intervals_change_alone as the_law}
use Rattle.srm_member.proofs.adapting_laws.intervals_change_alone.Goals as goal

pub returns : goal.returns
returns c = the_law
