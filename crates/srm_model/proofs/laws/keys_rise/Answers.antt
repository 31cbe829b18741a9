use Rattle.srm_model.proofs.StrictRuns.{keys_rise as the_law}
use Rattle.srm_model.proofs.laws.keys_rise.Goals as goal

pub returns : goal.returns
returns c = the_law
