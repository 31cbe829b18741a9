use Rattle.std.proofs.Common.{◌≡◌, ◌∙◌, List, length, map, All, ap, sym, subst}
use Rattle.std.specs.List.{range_with_len}
use Rattle.std.proofs.lemmas.List.{length-map}
use Rattle.srm_cell.specs.declared.job.Job.{Job}
use Rattle.srm_cell.specs.Jobs.{MayAdvance}
use Rattle.srm_interfaces.specs.Crews.{AreDone, MayMap}
use Rattle.srm_interfaces.specs.Watches.{KeepClosed, jobs_in, job_in}
use Rattle.srm_engine.specs.ByRows.{LeftEach}
use Rattle.srm_engine.proofs.Leaving.{left_of_jobs, may_leave}
use Rattle.srm_engine.proofs.WatchedLemmas.{places_in}
use Rattle.srm_engine.proofs.by_rows.ByRowsWatchCrew.map.Goals as goal

pub map-requires-clause-may : goal.map-requires-clause-may
map-requires-clause-may g c =
    subst (MayMap g.M.Participant.plain c.args.session.net.now c.args.ledger.now c.args.seat) (sym c.in-Ok.ensures.jobs)
    c.requires.may.may

pub map-requires-clause-places : goal.map-requires-clause-places
map-requires-clause-places g c =
    let js = c.args.jobs.items in
    ap (λ (l : List (Job _)). map (λ j. j.place) l) c.in-Ok.ensures.jobs ∙ places_in js ∙ c.requires.may.places
    ∙ ap (λ n. range_with_len 0 n) (sym (ap (λ (l : List (Job _)). length l) c.in-Ok.ensures.jobs ∙ length-map js job_in))

pub leave-requires : goal.leave-requires
leave-requires g c =
    let js = c.args.jobs.items in
    let f = g.M.Participant.plain in
    let k = c.args.session.scenario.now in
    let hosts : length c.args.session.net.now.hosts ≡ length k.members =
    ap (λ n. length n.hosts) c.args.session.network ∙ length-map k.members (λ m. m.node) in
    record {
      may = rw c.in-Ok.ensures.kept
          (may_leave f k c.args.session.net.now js c.in-Ok-map.done.0.items
          (subst (λ n. All (λ j. MayAdvance f n j) (jobs_in js)) hosts c.requires.may.may.jobs) c.requires.may.sound
          (subst (λ l. AreDone f k c.args.session.net.now l c.in-Ok-map.done.0.items) c.in-Ok.ensures.jobs c.in-Ok-map.ensures.done.0));
    }

pub returns-in-Ok-leave-clause-done : goal.returns-in-Ok-leave-clause-done
returns-in-Ok-leave-clause-done g c =
    let js = c.args.jobs.items in
    let f = g.M.Participant.plain in
    let k = c.args.session.scenario.now in
    let net = c.args.session.net.now in
    let ds = c.in-Ok-map.done.0.items in
    let takes = KeepClosed (g.W.Watch.keeps c.args.watch) (g.W.Watch.closes c.args.watch) in
    let told = c.in-Ok-map.ensures.done in (
      ds,
      subst (λ l. AreDone f k net l ds) c.in-Ok.ensures.jobs told.0,
      told.1,
      left_of_jobs takes k net js ds c.in-Ok-leave.left.items
          (subst (λ l. LeftEach takes k net l ds c.in-Ok-leave.left.items) c.in-Ok.ensures.kept
          c.in-Ok-leave.ensures),
    )
