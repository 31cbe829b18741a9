use Rattle.std.proofs.Common.{◌≡◌, ◌++◌}
use Rattle.std.specs.Vec.Iter.{into_iter_items}
use Rattle.srm_engine.specs.Groups.{all_in}
use Rattle.srm_engine.proofs.watched_groups.in_one.Given as goal

abbrev pub invariant-loop-own : goal.invariant-loop-own
invariant-loop-own g l =
    (goal.iterator-loop-own g).can_next l.own-iterator
    × (goal.iterator-loop-own g).is_finite l.own-iterator
    × (l.all.items ++ all_in (into_iter_items l.own-iterator) ≡ all_in l.fn.each.items)
