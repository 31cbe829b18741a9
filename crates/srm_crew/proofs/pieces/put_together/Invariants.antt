use Rattle.std.specs.Vec.Iter.{into_iter_items}
use Rattle.srm_crew.proofs.JobPieces.{TogetherSoFar}
use Rattle.srm_crew.proofs.pieces.put_together.Given as goal

abbrev pub invariant-loop-told : goal.invariant-loop-told
invariant-loop-told g l =
    (goal.iterator-loop-told g).can_next l.told-iterator
    × (goal.iterator-loop-told g).is_finite l.told-iterator
    × TogetherSoFar l.all.items (into_iter_items l.told-iterator) l.fn.pieces.items
