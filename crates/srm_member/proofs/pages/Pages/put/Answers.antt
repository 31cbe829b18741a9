use Rattle.std.proofs.Common.{◌∙◌, sym, ap, subst, T, length, slice_set}
use Rattle.std.proofs.lemmas.List.{length-set}
use Rattle.smallvec.proofs.SmallVecLemmas.{items-with_items}
use Rattle.std.specs.FinMap.Entries.{is_sorted, is_sorted-put}
use Rattle.srm_net.specs.declared.packet.PageId.{PageId}
use Rattle.srm_net.specs.Names.{page_cmp}
use Rattle.srm_net.proofs.TotalOrders.{page_total, tied_pages}
use Rattle.srm_member.specs.Record.{Progress}
use Rattle.srm_member.proofs.PlaceLemmas.{put_over, place_there}
use Rattle.srm_member.proofs.pages.Pages.put.Goals as goal

pub returns-then-is_at-clause-ok : goal.returns-then-is_at-clause-ok
returns-then-is_at-clause-ok c =
    let es = c.args.self.now in
    let now = c.deref_mut.result.now in
    let entry : PageId × Progress = (c.args.page, c.args.progress) in
    let sorted = subst (λ xs. T (is_sorted page_cmp xs)) c.self.view_is c.self.invariant in
    let here = sym c.is_at.ensures ∙ c.if-is_at.true in
    items-with_items c.self.inside.entries (slice_set now 0 entry) (length-set now 0 entry ∙ ap length c.deref_mut.ensures.value)
    ∙ ap (λ xs. slice_set xs 0 entry) (c.deref_mut.ensures.value ∙ c.self.view_is)
    ∙ sym (put_over page_cmp page_total tied_pages c.args.page c.args.progress es 0
    (place_there page_cmp page_total tied_pages c.args.page es 0 sorted here) here)

pub invariant_of-self : goal.invariant_of-self
invariant_of-self c =
    let sorted = subst (λ es. T (is_sorted page_cmp es)) c.self.view_is c.self.invariant in
    subst (λ es. T (is_sorted page_cmp es)) (sym (returns-then-is_at-clause-ok c))
    (is_sorted-put page_cmp page_total c.args.page c.args.progress c.args.self.now sorted)
