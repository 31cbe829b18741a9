use Rattle.std.proofs.Common.{List, length, take}
use Rattle.srm_member.specs.declared.row.Row.{Row}
use Rattle.srm_report.specs.MemberCounts.{AreCounts}
use Rattle.srm_report.specs.Members.{member_columns, member_rows}
use Rattle.srm_report.specs.Records.{HasText}
use Rattle.srm_report.specs.Tables.{table_lines}
use Rattle.srm_report.proofs.members.member_lines.table_text.Given as goal

-- the header and the rows of the members so far were written, whichever rows were counted
abbrev pub invariant-loop-member : goal.invariant-loop-member
invariant-loop-member l =
    (rows : List Row) → AreCounts (length l.scenario.members) rows l.counts
    → HasText l.writer (table_lines member_columns (member_rows rows 0 (take l.member l.scenario.members)))
