use Rattle.std.specs.Vec.Iter.{into_iter_items}
use Rattle.srm_crew_tests.specs.Handed.{IsWatchedAs}
use Rattle.srm_interfaces.proofs.Zips.{ZipSoFar}
use Rattle.srm_crew_tests.proofs.crew_tests.keep_seen.watched.Given as goal

abbrev pub invariant-loop-job : goal.invariant-loop-job
invariant-loop-job g l =
    (goal.iterator-loop-job g).can_next l.job-iterator
    × (goal.iterator-loop-job g).is_finite l.job-iterator
    × ZipSoFar (λ j w. IsWatchedAs j w) l.fn.jobs.items (into_iter_items l.job-iterator) l.all.items
