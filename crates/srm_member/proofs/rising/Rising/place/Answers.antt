use Rattle.std.proofs.Common.{rules, ◌∙◌, sym, subst, T}
use Rattle.std.proofs.lemmas.List.Sorted.{IsPartitionPoint-from_clause}
use Rattle.std.specs.FinMap.Entries.{is_sorted}
use Rattle.srm_net.specs.Names.{name_cmp}
use Rattle.srm_net.proofs.TotalOrders.{name_total, tied_names}
use Rattle.srm_member.specs.Places.{is_before, IsPlaceOf}
use Rattle.srm_member.proofs.PlaceLemmas.{partitioned, place_there}
use Rattle.srm_member.proofs.rising.Rising.place.Goals as goal

pub returns : goal.returns
returns g c =
    let name = c.args.name in
    let es = c.as_slice.result.now in
    let sorted = subst (λ xs. T (is_sorted name_cmp xs)) (sym c.as_slice.ensures.value) c.self.invariant in
    let point = IsPartitionPoint-from_clause (is_before name_cmp name) es c.partition_point.result
    c.partition_point.ensures.partitioned (partitioned name_cmp name_total tied_names name es sorted) (λ a r f' k. search rules) in
    subst (λ xs. IsPlaceOf name_cmp name xs c.partition_point.result) (c.as_slice.ensures.value ∙ c.self.view_is)
    (c.partition_point.ensures.bound, point)

pub returns-then-is_at : goal.returns-then-is_at
returns-then-is_at g c =
    let sorted = subst (λ xs. T (is_sorted name_cmp xs)) c.self.view_is c.self.invariant in
    place_there name_cmp name_total tied_names c.args.name c.args.self.now c.self.inside.last sorted (sym c.is_at.ensures ∙ c.if-is_at.true)
