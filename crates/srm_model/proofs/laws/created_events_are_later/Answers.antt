use Rattle.srm_model.proofs.PendingKeys.{created_events_are_later as the_law}
use Rattle.srm_model.proofs.laws.created_events_are_later.Goals as goal

pub returns : goal.returns
returns c = the_law
