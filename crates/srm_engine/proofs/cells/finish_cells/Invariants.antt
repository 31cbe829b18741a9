use Rattle.std.proofs.Common.{◌≡◌, ◌++◌}
use Rattle.std.specs.Vec.Iter.{into_iter_items}
use Rattle.srm_engine.specs.Outcomes.{AllEnd, ends_of}
use Rattle.srm_engine.proofs.cells.finish_cells.Given as goal

abbrev pub invariant-loop-cell : goal.invariant-loop-cell
invariant-loop-cell g l =
    (goal.iterator-loop-cell g).can_next l.cell-iterator
    × (goal.iterator-loop-cell g).is_finite l.cell-iterator
    × (l.exits.items ++ ends_of g.M.Participant.plain (into_iter_items l.cell-iterator) ≡ ends_of g.M.Participant.plain l.fn.cells.items)
    × AllEnd g.M.Participant.plain (into_iter_items l.cell-iterator)
