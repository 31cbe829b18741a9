use Rattle.srm_model.proofs.OneOutcome.{outcomes_are_one as the_law}
use Rattle.srm_model.proofs.laws.outcomes_are_one.Goals as goal

pub returns : goal.returns
returns c = the_law
