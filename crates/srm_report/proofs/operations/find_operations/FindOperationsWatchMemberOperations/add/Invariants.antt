use Rattle.std.proofs.Common.{take}
use Rattle.srm_report.specs.KeptOperations.{KeepsMore}
use Rattle.srm_report.proofs.operations.find_operations.FindOperationsWatchMemberOperations.add.Given as goal

-- the rows so far were taken in
abbrev pub invariant-loop-row : goal.invariant-loop-row
invariant-loop-row l = KeepsMore l.fn.kept (take l.row-index l.rows) l.kept
