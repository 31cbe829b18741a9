use Rattle.std.proofs.Common.{map, take}
use Rattle.srm_report.specs.Operations.{operation_columns, operation_fields}
use Rattle.srm_report.specs.Records.{HasText}
use Rattle.srm_report.specs.Sendings.{sending_in}
use Rattle.srm_report.specs.Tables.{table_lines}
use Rattle.srm_report.specs.Tallies.{tally_in}
use Rattle.srm_report.proofs.operations.operation_lines.table_text.Given as goal

-- the header and the rows of the names so far were written
abbrev pub invariant-loop-name : goal.invariant-loop-name
invariant-loop-name l =
    HasText l.writer (table_lines operation_columns
    (map (λ n. operation_fields l.net n (tally_in l.tallies n) (sending_in l.sent n)) (take l.name-index l.name-items)))
