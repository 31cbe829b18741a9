use Rattle.srm_report.proofs.OperationSums.{sendings_add_up}
use Rattle.srm_report.proofs.operations.laws_of_operations.sendings_add_up.Goals as goal

pub returns : goal.returns
returns c = sendings_add_up
