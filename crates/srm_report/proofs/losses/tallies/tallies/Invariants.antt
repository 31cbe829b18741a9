use Rattle.std.proofs.Common.{List, take}
use Rattle.srm_member.specs.declared.row.Row.{Row}
use Rattle.srm_report.specs.Courses.{TellLosses}
use Rattle.srm_report.specs.Sendings.{TellLeft}
use Rattle.srm_report.specs.Tallies.{AreTallies}
use Rattle.srm_report.proofs.TallyLemmas.{keys}
use Rattle.srm_report.proofs.losses.tallies.tallies.Given as goal

-- the entries so far were counted
abbrev pub invariant-loop-entry : goal.invariant-loop-entry
invariant-loop-entry l =
    (rows : List Row) → TellLosses rows l.entries → TellLeft rows l.left → AreTallies rows (keys (take l.entry-index l.entries)) l.all
