use Rattle.srm_member.proofs.LawProofs.{timers_are_later as the_law}
use Rattle.srm_member.proofs.laws.timers_are_later.Goals as goal

pub returns : goal.returns
returns c = the_law
