use Rattle.srm_report.specs.Operations.{losses_of}
use Rattle.srm_report.proofs.OperationLemmas.{losses_add_up}
use Rattle.srm_report.proofs.operations.laws_of_operations.losers_add_up.Goals as goal

pub returns : goal.returns
returns c rows n = losses_add_up rows (losses_of rows n)
