use Rattle.srm_member.proofs.LawProofs.{listeners_send_nothing as the_law}
use Rattle.srm_member.proofs.laws.listeners_send_nothing.Goals as goal

pub returns : goal.returns
returns c = the_law
