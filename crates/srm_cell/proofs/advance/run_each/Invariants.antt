use Rattle.std.proofs.Common.{◌≡◌, length, take, drop}
use Rattle.srm_cell.specs.Jobs.{AreSound, RanEach}
use Rattle.srm_cell.proofs.advance.run_each.Given as goal

-- the cells so far have run, and the others are as they were
abbrev pub invariant-loop-cell : goal.invariant-loop-cell
invariant-loop-cell g l =
    (length l.cells ≡ length l.fn.cells) × (drop l.cell-index l.cells ≡ drop l.cell-index l.fn.cells)
    × (AreSound g.M.Participant.plain l.fn.cells
    → RanEach g.M.Participant.plain l.till (take l.cell-index l.fn.cells) l.rows.items (take l.cell-index l.cells))
