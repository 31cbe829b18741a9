use Rattle.std.proofs.Common.{map, take}
use Rattle.srm_report.specs.KeptScopes.{count_in}
use Rattle.srm_report.specs.Records.{HasText}
use Rattle.srm_report.specs.Scopes.{scope_columns, scope_fields}
use Rattle.srm_report.specs.Tables.{table_lines}
use Rattle.srm_report.proofs.scopes.scope_lines.table_text.Given as goal

-- the header and the rows of the entries so far were written
abbrev pub invariant-loop-entry : goal.invariant-loop-entry
invariant-loop-entry l =
    HasText l.writer (table_lines scope_columns (map (λ e. scope_fields e (count_in l.heard e.sent)) (take l.entry-index l.entries)))
