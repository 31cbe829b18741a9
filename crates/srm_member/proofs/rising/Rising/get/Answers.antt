use Rattle.std.proofs.Common.{◌∙◌, sym, ap, subst, Some, T, slice_index_or}
use Rattle.std.specs.FinMap.Entries.{is_sorted}
use Rattle.srm_net.specs.Names.{name_cmp}
use Rattle.srm_net.proofs.TotalOrders.{name_total, tied_names}
use Rattle.srm_member.proofs.PlaceLemmas.{found_there, nothing_there}
use Rattle.srm_member.proofs.rising.Rising.get.Goals as goal

pub returns-then-is_at : goal.returns-then-is_at
returns-then-is_at g c =
    let place = c.place-place.result in
    let entry = c.index.result.now in
    ap (λ e. Some e.1) (c.index.ensures ∙ ap (λ es. slice_index_or es place entry) c.self.view_is)
    ∙ sym (found_there name_cmp name_total tied_names c.args.name c.args.self.now place entry c.place-place.ensures
    (sym c.is_at.ensures ∙ c.if-is_at.true))

pub returns-else-is_at : goal.returns-else-is_at
returns-else-is_at g c =
    let sorted = subst (λ es. T (is_sorted name_cmp es)) c.self.view_is c.self.invariant in
    sym (nothing_there name_cmp name_total tied_names c.args.name c.args.self.now c.place-place.result sorted c.place-place.ensures
    (sym c.is_at.ensures ∙ c.if-is_at.false))
