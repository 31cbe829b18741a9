use Rattle.std.proofs.Common.{rules, ◌∙◌, ◌++◌, ℕ, List, take, ap, sym}
use Rattle.std.proofs.lemmas.List.{take_all}
use Rattle.std.proofs.lemmas.List.Sorted.{answers_always, IsNonDecreasingBy-from_sort, length_permutation}
use Rattle.srm_cell.specs.Crossings.{joined}
use Rattle.srm_cell.proofs.RowPackets.{joined-append}
use Rattle.srm_interfaces.specs.Grouped.{all_in}
use Rattle.srm_interfaces.proofs.GroupedLemmas.{all_in_more}
use Rattle.srm_report.specs.declared.listing.tick_part.TickPart.{TickPart}
use Rattle.srm_report.specs.KeptLines.{parts_text}
use Rattle.srm_report.proofs.TickLemmas.{sorted_texts}
use Rattle.srm_report.proofs.listing.in_order.put_in_order.Goals as goal

pub loop-group-preserved : goal.loop-group-preserved
loop-group-preserved c =
    let groups = c.args.groups.now in
    let i = c.loop-group.group-index in
    let group = c.group-item.result in
    c.in_ok-add_parts.ensures
    ∙ (λ k. c.loop-group.invariant k ++ joined (c.as_slice.ensures.value k))
    ∙ sym (joined-append (all_in (take i groups)) group.items)
    ∙ ap joined (sym (all_in_more groups i group c.loop-group-test.true c.group-item.is))

pub returns : goal.returns
returns c f rows are =
    let time = λ (p : TickPart). p.time in
    let groups = c.args.groups.now in
    let parts = c.loop-group.parts.items in
    let sorted = c.sort_by_key.new.self.items in
    let all = c.loop-group.invariant ∙ ap (λ l. joined (all_in l)) (take_all c.loop-group.group-index groups c.loop-group-test.false) in
    let stable = c.sort_by_key.ensures.stable time (answers_always _ _ _ (λ f a r f' k. search rules)) in
    let order = c.in_ok-sort_by_key.ensures.sorted time (answers_always _ _ _ (λ f a r f' k. search rules)) in
    ap parts_text c.in_ok-insert.ensures.items
    ∙ ap (λ (l : List ℕ). c.args.lead.now ++ l)
    (sorted_texts f rows parts sorted groups are all (length_permutation parts sorted c.sort_by_key.ensures.permutation) stable
    (IsNonDecreasingBy-from_sort time sorted order))
