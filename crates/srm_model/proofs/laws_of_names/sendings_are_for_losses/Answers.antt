use Rattle.srm_model.proofs.SentForLost.{sendings_are_for_losses}
use Rattle.srm_model.proofs.laws_of_names.sendings_are_for_losses.Goals as goal

pub returns : goal.returns
returns c = sendings_are_for_losses
