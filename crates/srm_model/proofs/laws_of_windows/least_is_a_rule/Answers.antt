use Rattle.srm_model.proofs.WindowEnds.{least_is_a_rule as the_law}
use Rattle.srm_model.proofs.laws_of_windows.least_is_a_rule.Goals as goal

pub returns : goal.returns
returns c = the_law
