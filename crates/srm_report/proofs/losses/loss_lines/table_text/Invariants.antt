use Rattle.std.proofs.Common.{List, length, map, take}
use Rattle.srm_member.specs.declared.row.Row.{Row}
use Rattle.srm_member.specs.Orderly.{IsOrderly}
use Rattle.srm_report.specs.declared.losses.course.Course.{Course}
use Rattle.srm_report.specs.declared.losses.loss.Loss.{Loss}
use Rattle.srm_report.specs.Courses.{TellLosses}
use Rattle.srm_report.specs.Losses.{loss_columns, loss_row}
use Rattle.srm_report.specs.Records.{HasText}
use Rattle.srm_report.specs.Tables.{table_lines}
use Rattle.srm_report.proofs.losses.loss_lines.table_text.Given as goal

-- the header and the rows of the losses so far were written, whichever rows they are of
abbrev pub invariant-loop-entry : goal.invariant-loop-entry
invariant-loop-entry l =
    (rows : List Row) → IsOrderly (length l.net.hosts) rows → TellLosses rows l.entries
    → HasText l.writer (table_lines loss_columns
    (map (loss_row l.net rows) (take l.entry-index (map (λ (e : Loss × Course). e.0) l.entries))))
