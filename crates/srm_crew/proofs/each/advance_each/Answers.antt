use Rattle.std.proofs.Common.{◌≡◌, ◌++◌, ◌∷◌, [], Ok, length, sym, ◌∙◌, arith}
use Rattle.std.proofs.lemmas.Grind.{common_steps}
use Rattle.std.proofs.lemmas.List.Elements.{All-head, All-tail}
use Rattle.std.specs.Vec.Iter.{into_iter_items}
use Rattle.srm_cell.specs.Jobs.{Advances, MayAdvance}
use Rattle.srm_cell.proofs.Pushes.{pushed_if}
use Rattle.srm_interfaces.proofs.Zips.{ZipSoFar, zip_none, zip_more, zip_all}
use Rattle.srm_crew.proofs.JobsSoFar.{refused_left}
use Rattle.srm_crew.proofs.each.advance_each.Goals as goal

pub loop-job-init : goal.loop-job-init
loop-job-init g c = (
  tt,
  tt,
  rw c.into_iter-job-iterator.ensures.into_iter_gives.0 c.requires,
  zip_none (λ j d. Advances g.M.Participant.plain c.args.scenario.now c.args.net.now j (Ok d)) _ _ _
      c.into_iter-job-iterator.ensures.into_iter_gives.0 c.new-all.ensures.items,
)

pub advance-requires : goal.advance-requires
advance-requires g c = All-head (λ j. MayAdvance g.M.Participant.plain (length c.args.net.now.hosts)
    j) _ _ (rw c.in-Some.ensures.steps.0 at c.loop-job.invariant.2)

pub loop-job-preserved : goal.loop-job-preserved
loop-job-preserved g c = (
  tt,
  tt,
  All-tail (λ j. MayAdvance g.M.Participant.plain (length c.args.net.now.hosts) j) _ _
      (rw c.in-Some.ensures.steps.0 at c.loop-job.invariant.2),
  zip_more (λ j d. Advances g.M.Participant.plain c.args.scenario.now c.args.net.now j (Ok d)) _ _ _ _ c.in-Some.job c.in-Ok.done
      (rw c.in-Some.ensures.steps.0 at c.loop-job.invariant.3) c.in-Ok.ensures
      (pushed_if c.push.result (c.loop-job.all.items ++ c.in-Ok.done ∷ []) c.loop-job.all.items c.push.new.self.items
      (sym c.is_err.ensures.value ∙ c.if-is_err.false) c.push.ensures.items),
)

pub returns-in-Err : goal.returns-in-Err
returns-in-Err g c =
    let so : ZipSoFar (λ j d. Advances g.M.Participant.plain c.args.scenario.now c.args.net.now j (Ok d)) c.args.jobs.items
    (c.in-Some.job ∷ into_iter_items c.next.new.self) c.loop-job.all.items = rw c.in-Some.ensures.steps.0 at c.loop-job.invariant.3 in
    refused_left g.M.Participant.plain c.args.scenario.now c.args.net.now so.front (into_iter_items c.next.new.self) c.args.jobs.items
    c.in-Some.job c.in-Err.fault so.is c.in-Err.ensures

pub returns : goal.returns
returns g c =
    let ok = c.loop-job.job-iterator.rest.ok in
    let none : into_iter_items c.loop-job.job-iterator ≡ [] = grind (arith, common_steps) in
    zip_all (λ j d. Advances g.M.Participant.plain c.args.scenario.now c.args.net.now j (Ok d)) _ _ _ c.loop-job.invariant.3 none
