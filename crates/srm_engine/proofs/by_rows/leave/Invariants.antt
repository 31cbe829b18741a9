use Rattle.std.proofs.Common.{map}
use Rattle.std.specs.Global.{Vec}
use Rattle.std.specs.Vec.Iter.{into_iter_items}
use Rattle.std.specs.Iterator.Adapters.{zip_first, zip_second}
use Rattle.srm_interfaces.specs.Watches.{KeepClosed}
use Rattle.srm_engine.proofs.Leaving.{LeftSoFar}
use Rattle.srm_engine.proofs.by_rows.leave.Given as goal

-- what is left of the jobs so far
abbrev pub invariant-loop-own : goal.invariant-loop-own
invariant-loop-own g l =
    (goal.iterator-loop-own g).can_next l.own-iterator
    × (goal.iterator-loop-own g).is_finite l.own-iterator
    × LeftSoFar (KeepClosed (g.W.Watch.keeps l.watch) (g.W.Watch.closes l.watch)) l.session.scenario.now
    l.session.net.now (map (λ (v : Vec _). v.items) l.fn.kept.items)
    l.fn.all.items l.left.items
    (map (λ (v : Vec _). v.items) (into_iter_items (zip_first l.own-iterator))) (into_iter_items (zip_second l.own-iterator))
