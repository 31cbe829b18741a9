use Rattle.srm_model.proofs.NamesKept
use Rattle.srm_model.proofs.laws_of_names.repairs_are_of_held.Goals as goal

pub returns : goal.returns
returns c = NamesKept.repairs_are_of_held
