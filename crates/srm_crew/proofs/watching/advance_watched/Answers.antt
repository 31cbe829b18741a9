use Rattle.std.proofs.Common.{◌≡◌, ◌++◌, ◌∷◌, [], length, sym, ◌∙◌, arith}
use Rattle.std.proofs.lemmas.Grind.{common_steps}
use Rattle.std.proofs.lemmas.List.Elements.{All-head, All-tail}
use Rattle.std.specs.Vec.Iter.{into_iter_items}
use Rattle.srm_cell.specs.Jobs.{MayAdvance}
use Rattle.srm_cell.proofs.Pushes.{pushed_if}
use Rattle.srm_interfaces.specs.Watches.{IsSoundJob, KeepClosed}
use Rattle.srm_crew.proofs.WatchedSoFar.{watched_all, watched_fault, watched_more, watched_none}
use Rattle.srm_crew.proofs.watching.advance_watched.Goals as goal

pub loop-job-init : goal.loop-job-init
loop-job-init g c =
    let takes = KeepClosed (g.W.Watch.keeps c.args.work.now.watch) (g.W.Watch.closes c.args.work.now.watch) in (
      tt,
      tt,
      rw c.into_iter-job-iterator.ensures.into_iter_gives.0 c.requires.0,
      rw c.into_iter-job-iterator.ensures.into_iter_gives.0 c.requires.1,
      rw (c.into_iter-job-iterator.ensures.into_iter_gives.0, c.new-all.ensures.items)
          (watched_none g.M.Participant.plain takes c.args.work.now.session.scenario.now c.args.work.now.session.net.now c.args.jobs.items),
    )

pub advance_one-requires-clause-job : goal.advance_one-requires-clause-job
advance_one-requires-clause-job g c =
    All-head (λ j. MayAdvance g.M.Participant.plain (length c.args.work.now.session.net.now.hosts) j) _ _
    (rw c.in-Some.ensures.steps.0 at c.loop-job.invariant.2)

pub advance_one-requires-clause-sound : goal.advance_one-requires-clause-sound
advance_one-requires-clause-sound g c =
    All-head (IsSoundJob g.M.Participant.plain) _ _ (rw c.in-Some.ensures.steps.0 at c.loop-job.invariant.3)

pub loop-job-preserved : goal.loop-job-preserved
loop-job-preserved g c =
    let takes = KeepClosed (g.W.Watch.keeps c.args.work.now.watch) (g.W.Watch.closes c.args.work.now.watch) in
    let all = pushed_if c.push.result (c.loop-job.all.items ++ c.in-Ok.done ∷ []) c.loop-job.all.items c.push.new.self.items
    (sym c.is_err.ensures.value ∙ c.if-is_err.false) c.push.ensures.items in (
      tt,
      tt,
      All-tail (λ j. MayAdvance g.M.Participant.plain (length c.args.work.now.session.net.now.hosts) j) _ _
          (rw c.in-Some.ensures.steps.0 at c.loop-job.invariant.2),
      All-tail (IsSoundJob g.M.Participant.plain) _ _ (rw c.in-Some.ensures.steps.0 at c.loop-job.invariant.3),
      rw all (watched_more g.M.Participant.plain takes c.args.work.now.session.scenario.now
          c.args.work.now.session.net.now c.args.jobs.items
          c.loop-job.all.items c.in-Some.job (into_iter_items c.next.new.self) c.in-Ok.done
          (rw c.in-Some.ensures.steps.0 at c.loop-job.invariant.4) c.in-Ok.ensures),
    )

pub returns-in-Err : goal.returns-in-Err
returns-in-Err g c =
    let takes = KeepClosed (g.W.Watch.keeps c.args.work.now.watch) (g.W.Watch.closes c.args.work.now.watch) in
    watched_fault g.M.Participant.plain takes c.args.work.now.session.scenario.now
    c.args.work.now.session.net.now c.args.jobs.items c.loop-job.all.items c.in-Some.job (into_iter_items c.next.new.self)
    c.in-Err.fault (rw c.in-Some.ensures.steps.0 at c.loop-job.invariant.4) c.in-Err.ensures

pub returns : goal.returns
returns g c =
    let takes = KeepClosed (g.W.Watch.keeps c.args.work.now.watch) (g.W.Watch.closes c.args.work.now.watch) in
    let ok = c.loop-job.job-iterator.rest.ok in
    let none : into_iter_items c.loop-job.job-iterator ≡ [] = grind (arith, common_steps) in
    watched_all g.M.Participant.plain takes c.args.work.now.session.scenario.now
    c.args.work.now.session.net.now c.args.jobs.items
    c.loop-job.all.items (into_iter_items c.loop-job.job-iterator) c.loop-job.invariant.4 none
