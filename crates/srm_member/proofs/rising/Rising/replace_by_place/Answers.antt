use Rattle.std.proofs.Common.{◌∙◌, sym, ap, subst, Some, T, slice_set, slice_index_or, insert}
use Rattle.std.specs.FinMap.Entries.{is_sorted}
use Rattle.srm_net.specs.Names.{name_cmp}
use Rattle.srm_net.proofs.TotalOrders.{name_total, tied_names}
use Rattle.srm_member.proofs.PlaceLemmas.{put_over, put_between, found_there, nothing_there}
use Rattle.srm_member.proofs.TableChanges.{sorted_put}
use Rattle.srm_member.proofs.rising.Rising.replace_by_place.Goals as goal

pub returns-then-is_at-clause-before : goal.returns-then-is_at-clause-before
returns-then-is_at-clause-before g c =
    let place = c.place-place.result in
    let entry = c.index.result.now in
    ap (λ e. Some e.1) (c.index.ensures ∙ ap (λ es. slice_index_or es place entry) c.self.view_is)
    ∙ sym (found_there name_cmp name_total tied_names c.args.name c.args.self.now place entry c.place-place.ensures
    (sym c.is_at.ensures ∙ c.if-is_at.true))

pub returns-then-is_at-clause-ok : goal.returns-then-is_at-clause-ok
returns-then-is_at-clause-ok g c =
    let place = c.place-place.result in
    ap (λ es. slice_set es place (c.args.name, c.args.value)) c.self.view_is
    ∙ sym (put_over name_cmp name_total tied_names c.args.name c.args.value c.args.self.now place c.place-place.ensures
    (sym c.is_at.ensures ∙ c.if-is_at.true))

pub returns-clause-before : goal.returns-clause-before
returns-clause-before g c =
    let sorted = subst (λ es. T (is_sorted name_cmp es)) c.self.view_is c.self.invariant in
    sym (nothing_there name_cmp name_total tied_names c.args.name c.args.self.now c.place-place.result sorted c.place-place.ensures
    (sym c.is_at.ensures ∙ c.if-is_at.false))

pub returns-clause-ok : goal.returns-clause-ok
returns-clause-ok g c =
    let place = c.place-place.result in
    c.in_ok-insert.ensures.ok ∙ ap (λ es. insert es place (c.args.name, c.args.value)) c.self.view_is
    ∙ sym (put_between name_cmp name_total tied_names c.args.name c.args.value c.args.self.now place c.place-place.ensures
    (sym c.is_at.ensures ∙ c.if-is_at.false))

pub invariant_of-self : goal.invariant_of-self
invariant_of-self g c =
    let sorted = subst (λ es. T (is_sorted name_cmp es)) c.self.view_is c.self.invariant in
    subst (λ es. T (is_sorted name_cmp es)) (sym (returns-then-is_at-clause-ok g c))
    (sorted_put c.args.name c.args.value c.args.self.now sorted)

pub invariant_of-self-2 : goal.invariant_of-self-2
invariant_of-self-2 g c =
    let sorted = subst (λ es. T (is_sorted name_cmp es)) c.self.view_is c.self.invariant in
    subst (λ es. T (is_sorted name_cmp es)) (sym (returns-clause-ok g c))
    (sorted_put c.args.name c.args.value c.args.self.now sorted)
