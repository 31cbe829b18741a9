use Rattle.srm_member.proofs.TimerLaws.{busy_moves_no_timer as the_law}
use Rattle.srm_member.proofs.local_laws.busy_moves_no_timer.Goals as goal

pub returns : goal.returns
returns c = the_law
