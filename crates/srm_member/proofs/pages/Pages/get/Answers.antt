use Rattle.std.proofs.Common.{◌∙◌, sym, ap, subst, Some, T, slice_index_or}
use Rattle.std.specs.FinMap.Entries.{is_sorted}
use Rattle.srm_net.specs.Names.{page_cmp}
use Rattle.srm_net.proofs.TotalOrders.{page_total, tied_pages}
use Rattle.srm_member.proofs.PlaceLemmas.{found_there, place_there}
use Rattle.srm_member.proofs.TableChanges.{put_found}
use Rattle.srm_member.proofs.pages.Pages.get.Goals as goal

pub returns-then-is_at-clause-value : goal.returns-then-is_at-clause-value
returns-then-is_at-clause-value c =
    let es = c.args.self.now in
    let entry = c.index-deref-0.result in
    let sorted = subst (λ xs. T (is_sorted page_cmp xs)) c.self.view_is c.self.invariant in
    let here = sym c.is_at.ensures ∙ c.if-is_at.true in
    ap (λ xs. Some (slice_index_or xs 0 entry).1) (c.deref.ensures ∙ c.self.view_is)
    ∙ sym (found_there page_cmp page_total tied_pages c.args.page es 0 entry
    (place_there page_cmp page_total tied_pages c.args.page es 0 sorted here) here)

pub returns-then-is_at-clause-kept : goal.returns-then-is_at-clause-kept
returns-then-is_at-clause-kept c =
    let sorted = subst (λ es. T (is_sorted page_cmp es)) c.self.view_is c.self.invariant in
    put_found c.args.page _ c.args.self.now sorted (sym (returns-then-is_at-clause-value c))
