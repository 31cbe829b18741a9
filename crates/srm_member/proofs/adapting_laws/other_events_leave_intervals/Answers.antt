use Rattle.srm_member.proofs.OtherEvents.{other_events_leave_intervals as the_law}
use Rattle.srm_member.proofs.adapting_laws.other_events_leave_intervals.Goals as goal

pub returns : goal.returns
returns c = the_law
