use Rattle.srm_report.proofs.FirstRows.{firsts_are_least}
use Rattle.srm_report.proofs.operations.laws_of_operations.firsts_are_least.Goals as goal

pub returns : goal.returns
returns c = firsts_are_least
