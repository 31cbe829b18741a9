use Rattle.std.proofs.Common.{List, [], ◌∷◌, ◌++◌, take}
use Rattle.srm_member.specs.declared.row.Row.{Row}
use Rattle.srm_report.specs.Courses.{TellLosses, LoseInTurn, losing}
use Rattle.srm_report.proofs.losses.courses.detect.Given as goal

-- the losses so far were taken in
abbrev pub invariant-loop-name : goal.invariant-loop-name
invariant-loop-name l =
    (rows after : List Row) → LoseInTurn (rows ++ l.row ∷ after) → TellLosses rows l.fn.losses
    → TellLosses (rows ++ losing l.row (take l.name-index l.row.lost) ∷ []) l.losses
