use Rattle.std.proofs.Common.{rules, ◌∙◌, ◌++◌, ap}
use Rattle.std.proofs.lemmas.Result.{IfOk-weaker}
use Rattle.std.proofs.lemmas.List.Sorted.{answers_always, length_permutation}
use Rattle.srm_cell.specs.Crossings.{joined}
use Rattle.srm_report.specs.declared.listing.tick_part.TickPart.{TickPart}
use Rattle.srm_report.specs.KeptLines.{parts_seen, text_at}
use Rattle.srm_report.proofs.TickLemmas.{all_texts, stable_texts}
use Rattle.srm_report.proofs.listing.in_order.together.Goals as goal

pub returns : goal.returns
returns c =
    let parts = c.add_parts.new.parts.items in
    let sorted = c.sort_by_key.new.self.items in
    let stable = c.sort_by_key.ensures.stable (λ (p : TickPart). p.time) (answers_always _ _ _ (λ f a r f' k. search rules)) in
    let long = length_permutation parts sorted c.sort_by_key.ensures.permutation in
    IfOk-weaker c.lines_of.result _ _
    (λ lines same t. same t ∙ ap (λ l. text_at t (parts_seen l)) c.as_slice.ensures.value
    ∙ stable_texts t parts sorted long stable
    ∙ ap (text_at t) (c.in_ok-add_parts.ensures ∙ (λ k. parts_seen (c.new-parts.ensures.items k) ++ joined c.args.all.now))
    ∙ all_texts t c.args.all.now)
    c.lines_of.ensures
