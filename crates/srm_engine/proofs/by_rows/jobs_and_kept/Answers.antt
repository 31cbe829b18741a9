use Rattle.std.proofs.Common.{◌∙◌, ◌++◌, ◌∷◌, [], sym, ap, map, append_assoc}
use Rattle.std.proofs.lemmas.List.{map-append}
use Rattle.std.specs.Global.{Vec}
use Rattle.std.specs.Vec.Iter.{into_iter_items}
use Rattle.srm_interfaces.specs.Watches.{jobs_in, job_in}
use Rattle.srm_engine.specs.ByRows.{kept_in}
use Rattle.srm_engine.proofs.by_rows.jobs_and_kept.Goals as goal

pub loop-job-preserved : goal.loop-job-preserved
loop-job-preserved g c =
    let i = c.loop-job.invariant in
    let js = c.loop-job.plain.items in
    let f = λ (v : Vec _). v.items in
    let ks = map f c.loop-job.all.items in
    let more = into_iter_items c.next.new.self in
    let steps = c.in-Some.ensures.steps.0 in (
      tt,
      tt,
      ap (λ l. l ++ jobs_in more) c.in_ok-push.ensures.items ∙ append_assoc js (job_in c.in-Some.job ∷ []) (jobs_in more)
          ∙ ap (λ l. js ++ jobs_in l) (sym steps) ∙ i.2,
      ap (λ l. map f l ++ kept_in more) c.in_ok-push-2.ensures.items
          ∙ ap (λ l. l ++ kept_in more) (map-append f c.loop-job.all.items (c.in-Some.job.kept ∷ []))
          ∙ append_assoc ks (c.in-Some.job.kept.items ∷ []) (kept_in more)
          ∙ ap (λ l. ks ++ kept_in l) (sym steps) ∙ i.3,
    )
