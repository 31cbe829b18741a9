use Rattle.srm_model.proofs.LeastOfAll.{steps_take_the_least as the_law}
use Rattle.srm_model.proofs.laws.steps_take_the_least.Goals as goal

pub returns : goal.returns
returns c = the_law
