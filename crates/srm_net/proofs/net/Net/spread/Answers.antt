use Rattle.std.proofs.Common.{◌∙◌, sym, ap, subst, IfSome}
use Rattle.srm_net.specs.Network.{Network}
use Rattle.srm_net.specs.Paths.{takes_out}
use Rattle.srm_net.specs.Spreads.{IsSpread, TellsArrivals, TellsHops}
use Rattle.srm_net.proofs.SpreadLemmas.{spread_everywhere, spread_told}
use Rattle.srm_net.proofs.net.Net.spread.Goals as goal

pub returns-then-not-may_drop-clause-spread : goal.returns-then-not-may_drop-clause-spread
returns-then-not-may_drop-clause-spread c =
    subst (IsSpread c.args.self.now c.args.drops.now c.args.id c.args.sent c.args.scope) (sym c.everywhere.ensures)
    (spread_everywhere c.args.self.now c.args.drops.now c.args.id c.args.sent c.args.scope c.nodes-nodes.result
    (sym c.may_drop.ensures ∙ c.if-not-may_drop.true)
    (c.nodes-nodes.ensures ∙ ap (λ (w : Network). w.nodes) (c.deref.ensures ∙ c.self.view_is)))

pub returns-clause-spread : goal.returns-clause-spread
returns-clause-spread c =
    let w = c.args.self.now in
    let out = takes_out c.args.drops.now c.args.id in
    let arrivals = c.in_ok-arrivals.arrivals.items in
    let there = subst (λ (n : Network). TellsArrivals n out c.host.result c.args.sent arrivals) (c.deref-2.ensures ∙ c.self.view_is)
    c.in_ok-arrivals.ensures in
    let counted = subst (λ (n : Network). IfSome c.in_ok-hops.hops (TellsHops n c.host.result)) (c.deref-3.ensures ∙ c.self.view_is)
    c.in_ok-hops.ensures in
    subst (IsSpread w c.args.drops.now c.args.id c.args.sent c.args.scope) (sym c.told.ensures)
    (spread_told w c.args.drops.now c.args.id c.args.sent c.args.scope arrivals c.in_ok-hops.hops
    (subst (λ u. TellsArrivals w out u c.args.sent arrivals) c.host.ensures.value there)
    (subst (λ u. IfSome c.in_ok-hops.hops (TellsHops w u)) c.host.ensures.value counted))
