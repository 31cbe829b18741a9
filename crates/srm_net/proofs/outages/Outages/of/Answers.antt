use Rattle.std.proofs.Common.{rules, ◌≡◌, ◌∙◌, ℕ, List, sym, ap, subst}
use Rattle.std.proofs.lemmas.List.Sorted.{answers_always}
use Rattle.std.specs.List.Sorted.{IsPermutation}
use Rattle.srm_net.specs.declared.link.OutageSpec.{OutageSpec}
use Rattle.srm_net.specs.DropRules.{some_ends_after}
use Rattle.srm_net.proofs.OutageLemmas.{LinksRise, InOrder, in_order, Prolongs, begun_first, last_tells}
use Rattle.srm_net.proofs.outages.Outages.of.Goals as goal

pub prolonged-requires : goal.prolonged-requires
prolonged-requires c =
    let key : OutageSpec → ℕ × ℕ = λ o. (o.link, o.from) in
    let order = in_order c.sort_by_key.new.self.items
    (c.in_ok-sort_by_key.ensures.sorted key (answers_always _ _ _ (λ f a r f' k. search rules))) in
    subst LinksRise (sym c.as_slice.ensures.value) order.links

pub invariant_of-result : goal.invariant_of-result
invariant_of-result c =
    let key : OutageSpec → ℕ × ℕ = λ o. (o.link, o.from) in
    let order = in_order c.sort_by_key.new.self.items
    (c.in_ok-sort_by_key.ensures.sorted key (answers_always _ _ _ (λ f a r f' k. search rules))) in
    let list : c.in_ok-to_vec.field-0.items ≡ c.args.list.now = search rules in
    let same : c.in_ok-sorted.sorted.items ≡ c.args.list.now = search rules in
    let moved : IsPermutation c.in_ok-to_vec.field-0.items c.sort_by_key.new.self.items =
    subst (λ xs. IsPermutation xs c.sort_by_key.new.self.items) (same ∙ sym list) c.sort_by_key.ensures.permutation in
    let prolongs : Prolongs c.as_slice.result.now c.in_ok-spans.spans.items = record {
      order = subst InOrder (sym c.as_slice.ensures.value) order;
      size = c.in_ok-spans.ensures.size;
      each = c.in_ok-spans.ensures.each;
    } in
    let there = subst (IsPermutation c.in_ok-to_vec.field-0.items) (sym c.as_slice.ensures.value) moved in
    record {
      begun_first = begun_first c.as_slice.result.now c.in_ok-spans.spans.items prolongs;
      end_tells = λ t. c.latest_end.ensures t ∙ ap (λ (os : List OutageSpec). some_ends_after os t) (sym list);
      last_tells = last_tells c.in_ok-to_vec.field-0.items c.as_slice.result.now c.in_ok-spans.spans.items there prolongs;
    }
