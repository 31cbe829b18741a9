use Rattle.srm_model.proofs.PendingKeys.{pending_keys_differ as the_law}
use Rattle.srm_model.proofs.laws.pending_keys_differ.Goals as goal

pub returns : goal.returns
returns c = the_law
