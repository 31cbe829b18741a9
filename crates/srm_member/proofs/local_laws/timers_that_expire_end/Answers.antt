use Rattle.srm_member.proofs.TimerLaws.{timers_that_expire_end as the_law}
use Rattle.srm_member.proofs.local_laws.timers_that_expire_end.Goals as goal

pub returns : goal.returns
returns c = the_law
