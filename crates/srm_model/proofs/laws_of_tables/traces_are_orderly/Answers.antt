use Rattle.srm_model.proofs.OrderlyRuns
use Rattle.srm_model.proofs.laws_of_tables.traces_are_orderly.Goals as goal

pub returns : goal.returns
returns c = OrderlyRuns.traces_are_orderly
