use Rattle.srm_model.proofs.Fronts.{traces_are_nested as the_law}
use Rattle.srm_model.proofs.laws.traces_are_nested.Goals as goal

pub returns : goal.returns
returns c = the_law
