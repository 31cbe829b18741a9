use Rattle.std.proofs.Common.{◌≡◌, ◌∙◌, sym, ap, ℕ, Bool, true, false, not, ◌&&◌, Option}
use Rattle.std.specs.List.{list_any}
use Rattle.srm_net.specs.Network.{Network}
use Rattle.srm_net.specs.Paths.{host, route, stops, member_stops, takes_out, hops, is_within, reaches}
use Rattle.srm_net.proofs.net.Net.reaches.Goals as goal

within : (t w : Network) → t ≡ w → (scope : Option ℕ) (a m : ℕ) (b c : Bool) → b ≡ is_within scope (hops t a m) → b ≡ c
    → is_within scope (hops w a m) ≡ c
within t w e scope a m b c told is = ap (λ (v : Network). is_within scope (hops v a m)) (sym e) ∙ sym told ∙ is

pub returns-then-not-is_within : goal.returns-then-not-is_within
unfolding reaches
returns-then-not-is_within c =
    let w = c.args.self.now in
    let f = takes_out c.args.drops.now c.args.id in
    sym (ap (λ b. b && not (list_any f (member_stops w c.args.id.sender c.args.sent c.args.m)))
    (within c.deref.result.now w (c.deref.ensures ∙ c.self.view_is) c.args.scope c.args.id.sender c.args.m c.is_within.result false
    c.is_within.ensures c.if-not-is_within.true))

pub returns : goal.returns
unfolding reaches
returns c =
    let f = takes_out c.args.drops.now c.args.id in
    let w = c.self.inside.tree.value in
    let from : c.host-from.result ≡ host w c.args.id.sender = c.host-from.ensures.value
    ∙ ap (λ (v : Network). host v c.args.id.sender) c.deref-2.ensures in
    let to : c.host.result ≡ host w c.args.m = c.host.ensures.value ∙ ap (λ (v : Network). host v c.args.m) c.deref-4.ensures in
    c.is_clear.ensures
    ∙ ap (λ (v : Network). not (list_any f (stops v.links c.host-from.result c.args.sent (route v c.host-from.result c.host.result))))
    c.deref-3.ensures
    ∙ ap (λ u. not (list_any f (stops w.links u c.args.sent (route w u c.host.result)))) from
    ∙ ap (λ u. not (list_any f (stops w.links (host w c.args.id.sender) c.args.sent (route w (host w c.args.id.sender) u)))) to
    ∙ ap (λ (v : Network). not (list_any f (stops v.links (host v c.args.id.sender) c.args.sent
    (route v (host v c.args.id.sender) (host v c.args.m))))) c.self.view_is
    ∙ sym (ap (λ b. b && not (list_any f (member_stops c.args.self.now c.args.id.sender c.args.sent c.args.m)))
    (within c.deref.result.now c.args.self.now (c.deref.ensures ∙ c.self.view_is) c.args.scope c.args.id.sender c.args.m
    c.is_within.result true c.is_within.ensures c.if-not-is_within.false))
