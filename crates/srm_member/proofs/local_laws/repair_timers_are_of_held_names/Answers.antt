use Rattle.srm_member.proofs.TimerLaws.{repair_timers_are_of_held_names as the_law}
use Rattle.srm_member.proofs.local_laws.repair_timers_are_of_held_names.Goals as goal

pub returns : goal.returns
returns c = the_law
