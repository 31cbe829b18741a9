use Rattle.std.proofs.Common.{◌≡◌, [], refl, arith}
use Rattle.std.proofs.lemmas.Grind.{common_steps}
use Rattle.std.specs.Vec.Iter.{into_iter_items}
use Rattle.srm_interfaces.specs.declared.watched.WatchedJob.{WatchedJob}
use Rattle.srm_crew_tests.specs.Handed.{IsWatchedAs}
use Rattle.srm_interfaces.proofs.Zips.{zip_none, zip_more, zip_all}
use Rattle.srm_crew_tests.proofs.crew_tests.keep_seen.watched.Goals as goal

pub loop-job-init : goal.loop-job-init
loop-job-init g c = (
  tt,
  tt,
  zip_none (λ j w. IsWatchedAs j w) _ _ _ c.into_iter-job-iterator.ensures.into_iter_gives.0 c.new-all.ensures.items,
)

pub loop-job-preserved : goal.loop-job-preserved
loop-job-preserved g c =
    let j = c.in-Some.job in
    let w : WatchedJob _ _ = record { place = j.place; till = j.till; soon = 0; cells = j.cells; kept = c.in_ok-kept.kept } in (
      tt,
      tt,
      zip_more (λ j w. IsWatchedAs j w) _ _ _ _ j w (rw c.in-Some.ensures.steps.0 at c.loop-job.invariant.2)
          (refl, refl, (let many = c.in_ok-kept.ensures in let len = c.len.ensures in omega (arith, many, len))) c.in_ok-push.ensures.items,
    )

pub returns : goal.returns
returns g c =
    let ok = c.loop-job.job-iterator.rest.ok in
    let none : into_iter_items c.loop-job.job-iterator ≡ [] = grind (arith, common_steps) in
    zip_all (λ j w. IsWatchedAs j w) _ _ _ c.loop-job.invariant.2 none
