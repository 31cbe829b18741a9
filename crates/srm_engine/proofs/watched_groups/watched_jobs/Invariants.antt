use Rattle.std.proofs.Common.{◌≡◌, ◌++◌, length}
use Rattle.std.specs.Vec.Iter.{into_iter_items}
use Rattle.std.specs.Iterator.Adapters.{zip_first, zip_second}
use Rattle.srm_engine.specs.WatchedGroups.{time_at, watched_with}
use Rattle.srm_engine.proofs.watched_groups.watched_jobs.Given as goal

abbrev pub invariant-loop-cells : goal.invariant-loop-cells
invariant-loop-cells g l =
    (goal.iterator-loop-cells g).can_next l.cells-iterator
    × (goal.iterator-loop-cells g).is_finite l.cells-iterator
    × (l.jobs.items ++ watched_with (time_at l.soon) l.till (length l.jobs.items) (into_iter_items (zip_first l.cells-iterator))
    (into_iter_items (zip_second l.cells-iterator)) ≡ watched_with (time_at l.soon) l.till 0 l.fn.groups.items l.fn.kept.items)
