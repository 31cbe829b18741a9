use Rattle.std.proofs.Common.{◌≡◌, ◌∙◌, ◌+◌, refl, sym, ap, subst, not, ◌&&◌, false, None}
use Rattle.std.specs.List.{list_any}
use Rattle.srm_net.specs.Network.{Network, IsNetwork}
use Rattle.srm_net.specs.Paths.{delay_along, route, stop, stops, takes_out, crosses, drops_at}
use Rattle.srm_net.proofs.BuiltLemmas.{comes_there, comes_not}
use Rattle.srm_net.proofs.Scopes.{covered}
use Rattle.srm_net.proofs.net.Net.comes_to.Goals.{else-is_any_beyond-via-then-is_any_beyond+else-is_clear}
use Rattle.srm_net.proofs.net.Net.comes_to.Goals.{else-is_any_beyond-via-else-is_any_beyond}
use Rattle.srm_net.proofs.net.Net.comes_to.Goals as goal

pub returns-then-not-covers-clause-not_crossed : goal.returns-then-not-covers-clause-not_crossed
returns-then-not-covers-clause-not_crossed c =
    (covered c.deref.result.now c.args.self.now (c.deref.ensures ∙ c.self.view_is)
    (subst IsNetwork c.self.view_is c.self.invariant.network) c.args.link c.requires.link c.args.scope c.args.id.sender c.covers.result
    c.covers.ensures c.args.drops.now c.args.id c.args.sent c.requires.sender refl).0
    ∙ ap (λ b. b && crosses c.args.self.now c.args.drops.now c.args.id c.args.sent None c.args.link) c.if-not-covers.true

pub returns-then-not-covers-clause-not_dropped : goal.returns-then-not-covers-clause-not_dropped
returns-then-not-covers-clause-not_dropped c =
    (covered c.deref.result.now c.args.self.now (c.deref.ensures ∙ c.self.view_is)
    (subst IsNetwork c.self.view_is c.self.invariant.network) c.args.link c.requires.link c.args.scope c.args.id.sender c.covers.result
    c.covers.ensures c.args.drops.now c.args.id c.args.sent c.requires.sender refl).1
    ∙ ap (λ b. b && drops_at c.args.self.now c.args.drops.now c.args.id c.args.sent None c.args.link) c.if-not-covers.true

pub returns-then-is_clear-clause-crossed : goal.returns-then-is_clear-clause-crossed
returns-then-is_clear-clause-crossed c =
    let f = takes_out c.args.drops.now c.args.id in
    let u = c.host-from.result in
    let v = c.beyond-near.result.0 in
    let clear =
    sym (ap (λ (w : Network). not (list_any f (stops w.links u c.args.sent (route w u v))))
    (c.deref-then-is_any_beyond.ensures ∙ c.self.view_is))
    ∙ sym c.is_clear.ensures ∙ c.if-is_clear.true in
    let there = comes_there c.args.self.now c.beyond-near.ensures.network c.args.link c.host-from.result c.beyond-near.result.0 c.args.sent
    c.beyond-near.result.1 c.args.drops.now c.args.id c.requires.link c.requires.sender c.host-from.ensures.value
    c.beyond-near.ensures.near c.beyond-near.ensures.any
    (ap (λ b. b && not (list_any f (stops c.args.self.now.links u c.args.sent (route c.args.self.now u v)))) c.if-is_any_beyond.true
    ∙ clear) in
    let late = c.delay.ensures.value ∙ ap (λ (w : Network). delay_along w.links u (route w u v))
    (c.deref-then-is_clear.ensures ∙ c.self.view_is) in
    (covered c.deref.result.now c.args.self.now (c.deref.ensures ∙ c.self.view_is)
    (subst IsNetwork c.self.view_is c.self.invariant.network) c.args.link c.requires.link c.args.scope c.args.id.sender c.covers.result
    c.covers.ensures c.args.drops.now c.args.id c.args.sent c.requires.sender refl).0
    ∙ ap (λ b. b && crosses c.args.self.now c.args.drops.now c.args.id c.args.sent None c.args.link) c.if-not-covers.false
    ∙ there.0 ∙ ap (λ d. not (f (stop c.args.link (c.args.sent + d)))) (sym late)

pub returns-then-is_clear-clause-dropped : goal.returns-then-is_clear-clause-dropped
returns-then-is_clear-clause-dropped c =
    let f = takes_out c.args.drops.now c.args.id in
    let u = c.host-from.result in
    let v = c.beyond-near.result.0 in
    let clear =
    sym (ap (λ (w : Network). not (list_any f (stops w.links u c.args.sent (route w u v))))
    (c.deref-then-is_any_beyond.ensures ∙ c.self.view_is))
    ∙ sym c.is_clear.ensures ∙ c.if-is_clear.true in
    let there = comes_there c.args.self.now c.beyond-near.ensures.network c.args.link c.host-from.result c.beyond-near.result.0 c.args.sent
    c.beyond-near.result.1 c.args.drops.now c.args.id c.requires.link c.requires.sender c.host-from.ensures.value
    c.beyond-near.ensures.near c.beyond-near.ensures.any
    (ap (λ b. b && not (list_any f (stops c.args.self.now.links u c.args.sent (route c.args.self.now u v)))) c.if-is_any_beyond.true
    ∙ clear) in
    let late = c.delay.ensures.value ∙ ap (λ (w : Network). delay_along w.links u (route w u v))
    (c.deref-then-is_clear.ensures ∙ c.self.view_is) in
    (covered c.deref.result.now c.args.self.now (c.deref.ensures ∙ c.self.view_is)
    (subst IsNetwork c.self.view_is c.self.invariant.network) c.args.link c.requires.link c.args.scope c.args.id.sender c.covers.result
    c.covers.ensures c.args.drops.now c.args.id c.args.sent c.requires.sender refl).1
    ∙ ap (λ b. b && drops_at c.args.self.now c.args.drops.now c.args.id c.args.sent None c.args.link) c.if-not-covers.false
    ∙ there.1 ∙ ap (λ d. f (stop c.args.link (c.args.sent + d))) (sym late)

pub returns-else-is_any_beyond-clause-not_crossed : goal.returns-else-is_any_beyond-clause-not_crossed
returns-else-is_any_beyond-clause-not_crossed c =
    let f = takes_out c.args.drops.now c.args.id in
    let u = c.host-from.result in
    let v = c.beyond-near.result.0 in
    let clear = not (list_any f (stops c.args.self.now.links u c.args.sent (route c.args.self.now u v))) in
    let none : (c.beyond-near.result.1 && clear) ≡ false = elim c.else-is_any_beyond.branch [
      | else-is_any_beyond-via-then-is_any_beyond+else-is_clear w ↦
          ap (λ b. b && clear) w.if-is_any_beyond.true
          ∙ sym (ap (λ (w : Network). not (list_any f (stops w.links u c.args.sent (route w u v))))
          (w.deref-then-is_any_beyond.ensures ∙ c.self.view_is))
          ∙ sym w.is_clear.ensures
          ∙ w.if-is_clear.false
      | else-is_any_beyond-via-else-is_any_beyond w ↦ ap (λ b. b && clear) w.if-is_any_beyond.false
    ] in
    (covered c.deref.result.now c.args.self.now (c.deref.ensures ∙ c.self.view_is)
    (subst IsNetwork c.self.view_is c.self.invariant.network) c.args.link c.requires.link c.args.scope c.args.id.sender c.covers.result
    c.covers.ensures c.args.drops.now c.args.id c.args.sent c.requires.sender refl).0
    ∙ ap (λ b. b && crosses c.args.self.now c.args.drops.now c.args.id c.args.sent None c.args.link) c.if-not-covers.false
    ∙ (comes_not c.args.self.now c.beyond-near.ensures.network c.args.link c.host-from.result c.beyond-near.result.0 c.args.sent
    c.beyond-near.result.1 c.args.drops.now c.args.id c.requires.link c.requires.sender c.host-from.ensures.value
    c.beyond-near.ensures.near c.beyond-near.ensures.any none).0

pub returns-else-is_any_beyond-clause-not_dropped : goal.returns-else-is_any_beyond-clause-not_dropped
returns-else-is_any_beyond-clause-not_dropped c =
    let f = takes_out c.args.drops.now c.args.id in
    let u = c.host-from.result in
    let v = c.beyond-near.result.0 in
    let clear = not (list_any f (stops c.args.self.now.links u c.args.sent (route c.args.self.now u v))) in
    let none : (c.beyond-near.result.1 && clear) ≡ false = elim c.else-is_any_beyond.branch [
      | else-is_any_beyond-via-then-is_any_beyond+else-is_clear w ↦
          ap (λ b. b && clear) w.if-is_any_beyond.true
          ∙ sym (ap (λ (w : Network). not (list_any f (stops w.links u c.args.sent (route w u v))))
          (w.deref-then-is_any_beyond.ensures ∙ c.self.view_is))
          ∙ sym w.is_clear.ensures
          ∙ w.if-is_clear.false
      | else-is_any_beyond-via-else-is_any_beyond w ↦ ap (λ b. b && clear) w.if-is_any_beyond.false
    ] in
    (covered c.deref.result.now c.args.self.now (c.deref.ensures ∙ c.self.view_is)
    (subst IsNetwork c.self.view_is c.self.invariant.network) c.args.link c.requires.link c.args.scope c.args.id.sender c.covers.result
    c.covers.ensures c.args.drops.now c.args.id c.args.sent c.requires.sender refl).1
    ∙ ap (λ b. b && drops_at c.args.self.now c.args.drops.now c.args.id c.args.sent None c.args.link) c.if-not-covers.false
    ∙ (comes_not c.args.self.now c.beyond-near.ensures.network c.args.link c.host-from.result c.beyond-near.result.0 c.args.sent
    c.beyond-near.result.1 c.args.drops.now c.args.id c.requires.link c.requires.sender c.host-from.ensures.value
    c.beyond-near.ensures.near c.beyond-near.ensures.any none).1
