use Rattle.std.proofs.Common.{◌∙◌, sym, ap, subst, T, length, slice_set, insert}
use Rattle.std.proofs.lemmas.List.{length-set}
use Rattle.smallvec.proofs.SmallVecLemmas.{items-with_items}
use Rattle.std.specs.FinMap.Entries.{is_sorted, is_sorted-put}
use Rattle.srm_net.specs.declared.packet.PageId.{PageId}
use Rattle.srm_net.specs.Names.{page_cmp}
use Rattle.srm_net.proofs.TotalOrders.{page_total, tied_pages}
use Rattle.srm_member.specs.Record.{Progress}
use Rattle.srm_member.proofs.PlaceLemmas.{put_over, put_between}
use Rattle.srm_member.proofs.pages.Pages.put_by_place.Goals as goal

pub returns-then-is_at-clause-ok : goal.returns-then-is_at-clause-ok
returns-then-is_at-clause-ok c =
    let place = c.place-place.result in
    let now = c.deref_mut.result.now in
    let entry : PageId × Progress = (c.args.page, c.args.progress) in
    items-with_items c.self.inside.entries (slice_set now place entry) (length-set now place entry ∙ ap length c.deref_mut.ensures.value)
    ∙ ap (λ es. slice_set es place entry) (c.deref_mut.ensures.value ∙ c.self.view_is)
    ∙ sym (put_over page_cmp page_total tied_pages c.args.page c.args.progress c.args.self.now place c.place-place.ensures
    (sym c.is_at.ensures ∙ c.if-is_at.true))

pub returns-in_ok-insert-clause-ok : goal.returns-in_ok-insert-clause-ok
returns-in_ok-insert-clause-ok c =
    let place = c.place-place.result in
    c.in_ok-insert.ensures.ok ∙ ap (λ es. insert es place (c.args.page, c.args.progress)) c.self.view_is
    ∙ sym (put_between page_cmp page_total tied_pages c.args.page c.args.progress c.args.self.now place c.place-place.ensures
    (sym c.is_at.ensures ∙ c.if-is_at.false))

pub invariant_of-self : goal.invariant_of-self
invariant_of-self c =
    let sorted = subst (λ es. T (is_sorted page_cmp es)) c.self.view_is c.self.invariant in
    subst (λ es. T (is_sorted page_cmp es)) (sym (returns-then-is_at-clause-ok c))
    (is_sorted-put page_cmp page_total c.args.page c.args.progress c.args.self.now sorted)

pub invariant_of-self-in-Continue-1 : goal.invariant_of-self-in-Continue-1
invariant_of-self-in-Continue-1 c =
    let sorted = subst (λ es. T (is_sorted page_cmp es)) c.self.view_is c.self.invariant in
    subst (λ es. T (is_sorted page_cmp es)) (sym (returns-in_ok-insert-clause-ok c))
    (is_sorted-put page_cmp page_total c.args.page c.args.progress c.args.self.now sorted)
