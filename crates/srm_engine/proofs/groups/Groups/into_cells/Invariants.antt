use Rattle.std.proofs.Common.{◌≡◌, ◌++◌}
use Rattle.std.specs.Vec.Iter.{into_iter_items}
use Rattle.srm_engine.specs.Groups.{all_in}
use Rattle.srm_engine.proofs.groups.Groups.into_cells.Given as goal

abbrev pub invariant-loop-group : goal.invariant-loop-group
invariant-loop-group g l =
    (goal.iterator-loop-group g).can_next l.group-iterator
    × (goal.iterator-loop-group g).is_finite l.group-iterator
    × (l.cells.items ++ all_in (into_iter_items l.group-iterator) ≡ all_in l.fn.self.groups.items)
