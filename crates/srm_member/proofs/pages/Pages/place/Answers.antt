use Rattle.std.proofs.Common.{rules, ◌∙◌, sym, subst, T}
use Rattle.std.proofs.lemmas.List.Sorted.{IsPartitionPoint-from_clause}
use Rattle.std.specs.FinMap.Entries.{is_sorted}
use Rattle.srm_net.specs.Names.{page_cmp}
use Rattle.srm_net.proofs.TotalOrders.{page_total, tied_pages}
use Rattle.srm_member.specs.Places.{is_before, IsPlaceOf}
use Rattle.srm_member.proofs.PlaceLemmas.{partitioned}
use Rattle.srm_member.proofs.pages.Pages.place.Goals as goal

pub returns : goal.returns
returns c =
    let page = c.args.page in
    let es = c.as_slice.result.now in
    let sorted = subst (λ xs. T (is_sorted page_cmp xs)) (sym c.as_slice.ensures) c.self.invariant in
    let point = IsPartitionPoint-from_clause (is_before page_cmp page) es c.partition_point.result
    c.partition_point.ensures.partitioned (partitioned page_cmp page_total tied_pages page es sorted) (λ a r f' k. search rules) in
    subst (λ xs. IsPlaceOf page_cmp page xs c.partition_point.result) (c.as_slice.ensures ∙ c.self.view_is)
    (c.partition_point.ensures.bound, point)
