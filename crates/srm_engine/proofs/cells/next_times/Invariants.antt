use Rattle.std.proofs.Common.{◌≡◌, length, take}
use Rattle.srm_cell.specs.Jobs.{AreSound}
use Rattle.srm_engine.specs.Seen.{times_of}
use Rattle.srm_engine.proofs.cells.next_times.Given as goal

-- the times are those of the cells so far
abbrev pub invariant-loop-cell : goal.invariant-loop-cell
invariant-loop-cell g l =
    (length l.times.items ≡ l.cell-index)
    × (AreSound g.M.Participant.plain l.cells → l.times.items ≡ times_of g.M.Participant.plain (take l.cell-index l.cells))
