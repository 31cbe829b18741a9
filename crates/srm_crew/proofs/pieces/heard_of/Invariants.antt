use Rattle.std.specs.Vec.Iter.{into_iter_items}
use Rattle.std.proofs.Common.{All}
use Rattle.srm_crew.specs.Pieces.{IsHeard}
use Rattle.srm_crew.proofs.Hearers.{HeardSoFar}
use Rattle.srm_crew.proofs.pieces.heard_of.Given as goal

abbrev pub invariant-loop-worked : goal.invariant-loop-worked
invariant-loop-worked g l =
    (goal.iterator-loop-worked g).can_next l.worked-iterator
    × (goal.iterator-loop-worked g).is_finite l.worked-iterator
    × All (λ w. IsHeard w) (into_iter_items l.worked-iterator)
    × HeardSoFar l.heard.items (into_iter_items l.worked-iterator) l.fn.all.items
