use Rattle.std.specs.Vec.Iter.{into_iter_items}
use Rattle.srm_crew.specs.Pieces.{AreHearersOf}
use Rattle.srm_interfaces.proofs.Zips.{ZipSoFar}
use Rattle.srm_crew.proofs.pieces.to_hear.Given as goal

abbrev pub invariant-loop-groups : goal.invariant-loop-groups
invariant-loop-groups g l =
    (goal.iterator-loop-groups g).can_next l.groups-iterator
    × (goal.iterator-loop-groups g).is_finite l.groups-iterator
    × ZipSoFar (λ gs p. AreHearersOf l.fn.sent.items gs p) l.fn.pieces.items (into_iter_items l.groups-iterator) l.all.items
