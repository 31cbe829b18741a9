use Rattle.std.proofs.Common.{All, length}
use Rattle.std.specs.Vec.Iter.{into_iter_items}
use Rattle.srm_cell.specs.Jobs.{MayAdvance}
use Rattle.srm_interfaces.specs.Watches.{IsSoundJob, KeepClosed, jobs_in}
use Rattle.srm_crew.proofs.WatchedSoFar.{WatchedSoFar}
use Rattle.srm_crew.proofs.watching.advance_watched.Given as goal

-- the jobs so far were advanced, and the others may be
abbrev pub invariant-loop-job : goal.invariant-loop-job
invariant-loop-job g l =
    (goal.iterator-loop-job g).can_next l.job-iterator
    × (goal.iterator-loop-job g).is_finite l.job-iterator
    × All (λ j. MayAdvance g.M.Participant.plain (length l.work.session.net.now.hosts) j) (jobs_in (into_iter_items l.job-iterator))
    × All (IsSoundJob g.M.Participant.plain) (into_iter_items l.job-iterator)
    × WatchedSoFar g.M.Participant.plain (KeepClosed (g.W.Watch.keeps l.work.watch) (g.W.Watch.closes l.work.watch))
    l.work.session.scenario.now l.work.session.net.now l.fn.jobs.items l.all.items (into_iter_items l.job-iterator)
