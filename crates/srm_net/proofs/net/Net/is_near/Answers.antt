use Rattle.std.proofs.Common.{◌≡◌, ◌∙◌, sym, ap, subst, Some, IfSome, nat_le, slice_index_or}
use Rattle.srm_net.specs.Paths.{host, hops, hops_between, is_within}
use Rattle.srm_net.specs.Spreads.{PlainSpread, TellsHops}
use Rattle.srm_net.proofs.Lists.{get_index}
use Rattle.srm_net.proofs.net.Net.is_near.Goals as goal

pub returns-in-Some-Some : goal.returns-in-Some-Some
unfolding hops
returns-in-Some-Some c rules p sent scope is =
    let w = c.args.self.now in
    let view = c.spread.view_is in
    let told : TellsHops w (host w p.sender) c.in-Some-Some.hops =
    subst (λ o. IfSome o (TellsHops w (host w p.sender))) (sym (ap (λ (s : PlainSpread). s.hops) view) ∙ c.in-Some-Some.is-1) is.hops in
    let read : slice_index_or c.in-Some-Some.hops c.host.result 0 ≡ hops_between w (host w p.sender) c.host.result =
    get_index c.in-Some-Some.hops c.host.result (hops_between w (host w p.sender) c.host.result) 0
    (told.each c.host.result c.host.ensures.node) in
    let scope_is : Some c.in-Some-Some.most ≡ scope =
    sym c.in-Some-Some.is-0 ∙ ap (λ (s : PlainSpread). s.scope) view ∙ is.scope_is in
    ap (λ n. nat_le n c.in-Some-Some.most) (c.from-in-Some-Some.ensures
    ∙ ap (λ i. slice_index_or c.as_slice.result.now i 0) c.from.ensures
    ∙ ap (λ xs. slice_index_or xs c.host.result 0) c.as_slice.ensures
    ∙ read ∙ ap (λ x. hops_between w (host w p.sender) x) c.host.ensures.value)
    ∙ ap (λ o. is_within o (hops_between w (host w p.sender) (host w c.args.m))) scope_is
