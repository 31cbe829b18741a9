use Rattle.std.proofs.Common.{◌≡◌, [], refl, arith}
use Rattle.std.proofs.lemmas.Grind.{common_steps}
use Rattle.std.specs.Vec.Iter.{into_iter_items}
use Rattle.srm_crew.specs.Pieces.{IsJobsOf}
use Rattle.srm_interfaces.proofs.Zips.{zip_none, zip_more, zip_all}
use Rattle.srm_crew.proofs.pieces.to_advance.Goals as goal

pub loop-jobs-init : goal.loop-jobs-init
loop-jobs-init g c = (
  tt,
  tt,
  zip_none (λ js p. IsJobsOf js p) _ _ _ c.into_iter-jobs-iterator.ensures.into_iter_gives.0 c.new-all.ensures.items,
)

pub loop-jobs-preserved : goal.loop-jobs-preserved
loop-jobs-preserved g c = (
  tt,
  tt,
  zip_more (λ js p. IsJobsOf js p) _ _ _ _ c.in-Some.jobs _ (rw c.in-Some.ensures.steps.0 at c.loop-jobs.invariant.2) refl
      c.in_ok-push.ensures.items,
)

pub returns : goal.returns
returns g c =
    let ok = c.loop-jobs.jobs-iterator.rest.ok in
    let none : into_iter_items c.loop-jobs.jobs-iterator ≡ [] = grind (arith, common_steps) in
    zip_all (λ js p. IsJobsOf js p) _ _ _ c.loop-jobs.invariant.2 none
