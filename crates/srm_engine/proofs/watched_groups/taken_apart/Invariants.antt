use Rattle.std.proofs.Common.{◌≡◌, ◌++◌}
use Rattle.std.specs.Vec.Iter.{into_iter_items}
use Rattle.srm_engine.specs.Groups.{all_in}
use Rattle.srm_engine.specs.WatchedGroups.{groups_in, kept_of, sent_of}
use Rattle.srm_engine.proofs.watched_groups.taken_apart.Given as goal

abbrev pub invariant-loop-done : goal.invariant-loop-done
invariant-loop-done g l =
    (goal.iterator-loop-done g).can_next l.done-iterator
    × (goal.iterator-loop-done g).is_finite l.done-iterator
    × (l.groups.items ++ groups_in (into_iter_items l.done-iterator) ≡ groups_in l.fn.all.items)
    × (l.each.items ++ kept_of (into_iter_items l.done-iterator) ≡ kept_of l.fn.all.items)
    × (all_in l.sent.items ++ all_in (sent_of (into_iter_items l.done-iterator)) ≡ all_in (sent_of l.fn.all.items))
