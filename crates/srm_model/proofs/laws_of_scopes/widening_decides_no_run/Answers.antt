use Rattle.srm_model.proofs.OtherWidening.{widening_decides_no_run}
use Rattle.srm_model.proofs.laws_of_scopes.widening_decides_no_run.Goals as goal

pub returns : goal.returns
returns c = widening_decides_no_run
