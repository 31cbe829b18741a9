use Rattle.std.proofs.Common.{◌≡◌, ◌++◌, map}
use Rattle.std.specs.Global.{Vec}
use Rattle.std.specs.Vec.Iter.{into_iter_items}
use Rattle.srm_interfaces.specs.Watches.{jobs_in}
use Rattle.srm_engine.specs.ByRows.{kept_in}
use Rattle.srm_engine.proofs.by_rows.jobs_and_kept.Given as goal

-- the jobs so far, and those that are left
abbrev pub invariant-loop-job : goal.invariant-loop-job
invariant-loop-job g l =
    (goal.iterator-loop-job g).can_next l.job-iterator
    × (goal.iterator-loop-job g).is_finite l.job-iterator
    × (l.plain.items ++ jobs_in (into_iter_items l.job-iterator) ≡ jobs_in l.fn.jobs.items)
    × (map (λ (v : Vec _). v.items) l.all.items ++ kept_in (into_iter_items l.job-iterator) ≡ kept_in l.fn.jobs.items)
