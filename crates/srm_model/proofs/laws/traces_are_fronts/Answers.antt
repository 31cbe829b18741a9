use Rattle.srm_model.proofs.Fronts.{traces_are_fronts as the_law}
use Rattle.srm_model.proofs.laws.traces_are_fronts.Goals as goal

pub returns : goal.returns
returns c = the_law
