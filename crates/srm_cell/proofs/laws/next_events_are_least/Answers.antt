use Rattle.srm_cell.proofs.LeastEvents.{next_events_are_least as the_law}
use Rattle.srm_cell.proofs.laws.next_events_are_least.Goals as goal

pub returns : goal.returns
returns c = the_law
