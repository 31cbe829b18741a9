use Rattle.srm_model.proofs.NamesKept
use Rattle.srm_model.proofs.laws_of_names.requests_are_for_losses.Goals as goal

pub returns : goal.returns
returns c = NamesKept.requests_are_for_losses
