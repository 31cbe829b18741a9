use Rattle.std.proofs.Common.{◌≡◌, ◌∙◌, sym, ap, arith, ◌<◌, length, true, false, slice_get, Some}
use Rattle.srm_net.specs.declared.link.LinkSpec.{LinkSpec}
use Rattle.srm_net.specs.Network.{Network}
use Rattle.srm_net.specs.Tables.{is_beyond}
use Rattle.srm_net.proofs.BuiltLemmas.{seen_link}
use Rattle.srm_net.proofs.ToldLemmas.{side_below, near_seen, any_seen}
use Rattle.srm_net.proofs.net.Net.beyond.Goals as goal
use Rattle.srm_net.proofs.net.Net.beyond.Goals.{Then-is_beyond, Else-is_beyond}

pub index-sides-requires : goal.index-sides-requires
index-sides-requires c =
    let lt = seen_link c.self.inside.tree.value c.args.self.now c.args.link c.self.view_is c.requires.link in
    let k : c.args.link < length c.self.inside.sides.items = side_below c.self.inside c.self.invariant c.args.link lt in
    omega (arith, c.self.inside.sides.ok.0)

node_beyond : (c : Then-is_beyond) → (j : LinkSpec) → slice_get c.self.inside.tree.value.links c.args.link ≡ Some j
    → true ≡ is_beyond c.self.inside.tree.value c.args.link j c.args.node
node_beyond c j g =
    sym c.if-is_beyond.true ∙ c.is_beyond.ensures j (ap (λ (w : Network). slice_get w.links c.args.link) c.deref-2.ensures ∙ g)
    ∙ ap (λ (w : Network). is_beyond w c.args.link j c.args.node) c.deref-2.ensures

node_before : (c : Else-is_beyond) → (j : LinkSpec) → slice_get c.self.inside.tree.value.links c.args.link ≡ Some j
    → false ≡ is_beyond c.self.inside.tree.value c.args.link j c.args.node
node_before c j g =
    sym c.if-is_beyond.false ∙ c.is_beyond.ensures j (ap (λ (w : Network). slice_get w.links c.args.link) c.deref-2.ensures ∙ g)
    ∙ ap (λ (w : Network). is_beyond w c.args.link j c.args.node) c.deref-2.ensures

pub returns-then-is_beyond-clause-near : goal.returns-then-is_beyond-clause-near
returns-then-is_beyond-clause-near c k g =
    near_seen c.self.inside.tree.value c.args.self.now c.self.view_is c.args.link c.args.node c.link-spec.result
    (sym (ap (λ (w : Network). slice_get w.links c.args.link) c.deref.ensures) ∙ c.link-spec.ensures) k g true
    (node_beyond c)

pub returns-then-is_beyond-clause-any : goal.returns-then-is_beyond-clause-any
returns-then-is_beyond-clause-any c k g =
    any_seen c.self.inside c.self.invariant c.args.self.now c.self.view_is c.args.link c.args.node c.from.result c.index-sides.result.now
    c.from.ensures c.index-sides.ensures k g true (node_beyond c)

pub returns-else-is_beyond-clause-near : goal.returns-else-is_beyond-clause-near
returns-else-is_beyond-clause-near c k g =
    near_seen c.self.inside.tree.value c.args.self.now c.self.view_is c.args.link c.args.node c.link-spec.result
    (sym (ap (λ (w : Network). slice_get w.links c.args.link) c.deref.ensures) ∙ c.link-spec.ensures) k g false
    (node_before c)

pub returns-else-is_beyond-clause-any : goal.returns-else-is_beyond-clause-any
returns-else-is_beyond-clause-any c k g =
    any_seen c.self.inside c.self.invariant c.args.self.now c.self.view_is c.args.link c.args.node c.from.result c.index-sides.result.now
    c.from.ensures c.index-sides.ensures k g false (node_before c)
