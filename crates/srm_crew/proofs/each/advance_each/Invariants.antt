use Rattle.std.proofs.Common.{All, Ok, length}
use Rattle.std.specs.Vec.Iter.{into_iter_items}
use Rattle.srm_cell.specs.Jobs.{Advances, MayAdvance}
use Rattle.srm_interfaces.proofs.Zips.{ZipSoFar}
use Rattle.srm_crew.proofs.each.advance_each.Given as goal

abbrev pub invariant-loop-job : goal.invariant-loop-job
invariant-loop-job g l =
    (goal.iterator-loop-job g).can_next l.job-iterator
    × (goal.iterator-loop-job g).is_finite l.job-iterator
    × All (λ j. MayAdvance g.M.Participant.plain (length l.net.hosts) j)
    (into_iter_items l.job-iterator)
    × ZipSoFar (λ j d. Advances g.M.Participant.plain l.scenario l.net j (Ok d)) l.fn.jobs.items
    (into_iter_items l.job-iterator) l.all.items
