use Rattle.std.proofs.Common.{take}
use Rattle.srm_report.specs.MemberCounts.{CountsOn}
use Rattle.srm_report.proofs.members.count_rows.CountRowsWatchMemberCount.add.Given as goal

-- the rows so far were counted
abbrev pub invariant-loop-row : goal.invariant-loop-row
invariant-loop-row l = CountsOn l.fn.kept (take l.row-index l.rows) l.kept
