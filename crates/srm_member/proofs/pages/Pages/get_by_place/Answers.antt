use Rattle.std.proofs.Common.{◌∙◌, sym, ap, subst, Some, T, slice_index_or}
use Rattle.std.specs.FinMap.Entries.{is_sorted}
use Rattle.srm_net.specs.Names.{page_cmp}
use Rattle.srm_net.proofs.TotalOrders.{page_total, tied_pages}
use Rattle.srm_member.proofs.PlaceLemmas.{found_there, nothing_there}
use Rattle.srm_member.proofs.TableChanges.{put_found}
use Rattle.srm_member.proofs.pages.Pages.get_by_place.Goals as goal

pub returns-then-is_at-clause-value : goal.returns-then-is_at-clause-value
returns-then-is_at-clause-value c =
    let place = c.place-place.result in
    let entry = c.index-deref-place.result in
    ap (λ es. Some (slice_index_or es place entry).1) (c.deref.ensures ∙ c.self.view_is)
    ∙ sym (found_there page_cmp page_total tied_pages c.args.page c.args.self.now place entry c.place-place.ensures
    (sym c.is_at.ensures ∙ c.if-is_at.true))

pub returns-then-is_at-clause-kept : goal.returns-then-is_at-clause-kept
returns-then-is_at-clause-kept c =
    let sorted = subst (λ es. T (is_sorted page_cmp es)) c.self.view_is c.self.invariant in
    put_found c.args.page _ c.args.self.now sorted (sym (returns-then-is_at-clause-value c))

pub returns-else-is_at-clause-value : goal.returns-else-is_at-clause-value
returns-else-is_at-clause-value c =
    let sorted = subst (λ es. T (is_sorted page_cmp es)) c.self.view_is c.self.invariant in
    sym (nothing_there page_cmp page_total tied_pages c.args.page c.args.self.now c.place-place.result sorted c.place-place.ensures
    (sym c.is_at.ensures ∙ c.if-is_at.false))
