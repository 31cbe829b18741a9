use Rattle.std.proofs.Common.{◌≡◌, ◌≤◌, ◌++◌, length}
use Rattle.std.specs.Vec.Iter.{into_iter_items}
use Rattle.srm_engine.specs.Groups.{all_in, sizes, AreFull}
use Rattle.srm_engine.proofs.groups.group.Given as goal

abbrev pub invariant-loop-cell : goal.invariant-loop-cell
invariant-loop-cell g l =
    (goal.iterator-loop-cell g).can_next l.cell-iterator
    × (goal.iterator-loop-cell g).is_finite l.cell-iterator
    × ((all_in l.groups.items ++ l.group.items) ++ into_iter_items l.cell-iterator ≡ l.fn.cells.items)
    × AreFull l.cut (sizes l.groups.items)
    × (length l.group.items ≤ l.cut)
