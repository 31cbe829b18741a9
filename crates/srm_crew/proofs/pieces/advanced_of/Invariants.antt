use Rattle.std.specs.Vec.Iter.{into_iter_items}
use Rattle.std.proofs.Common.{All}
use Rattle.srm_crew.specs.Pieces.{IsAdvanced, IsAdvancedAs}
use Rattle.srm_interfaces.proofs.Zips.{ZipSoFar}
use Rattle.srm_crew.proofs.pieces.advanced_of.Given as goal

abbrev pub invariant-loop-worked : goal.invariant-loop-worked
invariant-loop-worked g l =
    (goal.iterator-loop-worked g).can_next l.worked-iterator
    × (goal.iterator-loop-worked g).is_finite l.worked-iterator
    × All (λ w. IsAdvanced w) (into_iter_items l.worked-iterator)
    × ZipSoFar (λ w r. IsAdvancedAs r w) l.fn.all.items (into_iter_items l.worked-iterator) l.results.items
