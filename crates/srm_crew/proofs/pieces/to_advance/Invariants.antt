use Rattle.std.specs.Vec.Iter.{into_iter_items}
use Rattle.srm_crew.specs.Pieces.{IsJobsOf}
use Rattle.srm_interfaces.proofs.Zips.{ZipSoFar}
use Rattle.srm_crew.proofs.pieces.to_advance.Given as goal

abbrev pub invariant-loop-jobs : goal.invariant-loop-jobs
invariant-loop-jobs g l =
    (goal.iterator-loop-jobs g).can_next l.jobs-iterator
    × (goal.iterator-loop-jobs g).is_finite l.jobs-iterator
    × ZipSoFar (λ js p. IsJobsOf js p) l.fn.pieces.items (into_iter_items l.jobs-iterator) l.all.items
