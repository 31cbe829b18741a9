use Rattle.std.proofs.Common.{◌∙◌, ◌++◌, ◌∷◌, [], sym, ap, append_assoc}
use Rattle.std.specs.Vec.Iter.{into_iter_items}
use Rattle.srm_engine.specs.Groups.{all_in}
use Rattle.srm_engine.specs.WatchedGroups.{groups_in, kept_of, sent_of}
use Rattle.srm_engine.proofs.watched_groups.taken_apart.Goals as goal

pub loop-done-preserved : goal.loop-done-preserved
loop-done-preserved g c =
    let i = c.loop-done.invariant in
    let gs = c.loop-done.groups.items in
    let ks = c.loop-done.each.items in
    let xs = all_in c.loop-done.sent.items in
    let d = c.in-Some.done in
    let more = into_iter_items c.next.new.self in
    let steps = c.in-Some.ensures.steps.0 in (
      tt,
      tt,
      ap (λ l. l ++ groups_in more) c.in_ok-push.ensures.items ∙ append_assoc gs (d.cells ∷ []) (groups_in more)
          ∙ ap (λ ds. gs ++ groups_in ds) (sym steps) ∙ i.2,
      ap (λ l. l ++ kept_of more) c.in_ok-push-2.ensures.items ∙ append_assoc ks (d.kept ∷ []) (kept_of more)
          ∙ ap (λ ds. ks ++ kept_of ds) (sym steps) ∙ i.3,
      ap (λ l. l ++ all_in (sent_of more)) {y = xs ++ d.sent.items} c.in_ok-add_runs.ensures
          ∙ append_assoc xs d.sent.items (all_in (sent_of more))
          ∙ ap (λ ds. xs ++ all_in (sent_of ds)) (sym steps) ∙ i.4,
    )
