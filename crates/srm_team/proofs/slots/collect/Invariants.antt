use Rattle.std.proofs.Common.{◌≡◌, ◌++◌, map, Some}
use Rattle.std.specs.Vec.Iter.{into_iter_items}
use Rattle.srm_team.proofs.slots.collect.Given as goal

abbrev pub invariant-loop-slot : goal.invariant-loop-slot
invariant-loop-slot g l =
    (goal.iterator-loop-slot g).can_next l.slot-iterator
    × (goal.iterator-loop-slot g).is_finite l.slot-iterator
    × (map Some l.all.items ++ into_iter_items l.slot-iterator ≡ l.fn.slots.items)
