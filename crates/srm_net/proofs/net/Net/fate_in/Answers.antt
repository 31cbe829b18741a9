use Rattle.std.proofs.Common.{◌≡◌, ◌<◌, ℕ, Some, None, ◌&&◌, slice_get, length, sym, ap, subst, ◌∙◌}
use Rattle.srm_net.specs.declared.link.LinkSpec.{LinkSpec}
use Rattle.srm_net.specs.Network.{Network, IsNetwork}
use Rattle.srm_net.specs.Paths.{crosses, drops_at}
use Rattle.srm_net.specs.Spreads.{PlainSpread, FitsIn}
use Rattle.srm_net.proofs.Joining.{none_joined, by_both_ends}
use Rattle.srm_net.proofs.PathLaws.{ends_below}
use Rattle.srm_net.proofs.Scopes.{covered_spread, none_narrower}
use Rattle.srm_net.proofs.SpreadLemmas.{nobody_beyond}
use Rattle.srm_net.proofs.net.Net.fate_in.Goals as goal

pub returns-then-not-joins_members-clause-crosses : goal.returns-then-not-joins_members-clause-crosses
returns-then-not-joins_members-clause-crosses c rules p sent scope is =
    let w = c.args.self.now in
    let n = c.joins_members.ensures.network in
    sym (none_narrower w rules p sent scope c.args.link (nobody_beyond w n c.args.link c.requires.link c.args.spread.now c.requires.spread
    (λ k g. none_joined w n c.args.link (sym c.joins_members.ensures.value ∙ c.if-not-joins_members.true) k g c.args.spread.now.sender
    c.requires.spread.sender) rules p sent scope is)).0

pub returns-then-not-joins_members-clause-dropped : goal.returns-then-not-joins_members-clause-dropped
returns-then-not-joins_members-clause-dropped c rules p sent scope is =
    let w = c.args.self.now in
    let n = c.joins_members.ensures.network in
    sym (none_narrower w rules p sent scope c.args.link (nobody_beyond w n c.args.link c.requires.link c.args.spread.now c.requires.spread
    (λ k g. none_joined w n c.args.link (sym c.joins_members.ensures.value ∙ c.if-not-joins_members.true) k g c.args.spread.now.sender
    c.requires.spread.sender) rules p sent scope is)).1

pub returns-then-not-is_link_near-clause-crosses : goal.returns-then-not-is_link_near-clause-crosses
returns-then-not-is_link_near-clause-crosses c rules p sent scope is =
    sym ((covered_spread c.args.self.now c.joins_members.ensures.network c.args.link c.requires.link c.args.spread.now c.requires.spread
    c.is_link_near.result rules p sent scope is (λ k g. c.is_link_near.ensures k g rules p sent scope is)).0
    ∙ ap (λ b. b && crosses c.args.self.now rules p sent None c.args.link) c.if-not-is_link_near.true)

pub returns-then-not-is_link_near-clause-dropped : goal.returns-then-not-is_link_near-clause-dropped
returns-then-not-is_link_near-clause-dropped c rules p sent scope is =
    sym ((covered_spread c.args.self.now c.joins_members.ensures.network c.args.link c.requires.link c.args.spread.now c.requires.spread
    c.is_link_near.result rules p sent scope is (λ k g. c.is_link_near.ensures k g rules p sent scope is)).1
    ∙ ap (λ b. b && drops_at c.args.self.now rules p sent None c.args.link) c.if-not-is_link_near.true)

there : (t w : Network) → t ≡ w → (l : ℕ) (k : LinkSpec) → slice_get t.links l ≡ Some k → slice_get w.links l ≡ Some k
there t w e l k g = ap (λ (v : Network). slice_get v.links l) (sym e) ∙ g

told : (w : Network) → IsNetwork w → (l : ℕ) (k : LinkSpec) → slice_get w.links l ≡ Some k → (s : PlainSpread) → FitsIn w s
    → (k.a < length s.comes) × (k.b < length s.comes)
told w n l k g s fits =
    let ends = ends_below w l k (record { tree = n.tree; link = g }) in
    (subst (λ m. k.a < m) (sym fits.nodes) ends.0, subst (λ m. k.b < m) (sym fits.nodes) ends.1)

pub comes_to-requires : goal.comes_to-requires
comes_to-requires c =
    (told c.args.self.now c.joins_members.ensures.network c.args.link c.link-ends.result
    (there c.deref.result.now c.args.self.now (c.deref.ensures ∙ c.self.view_is) c.args.link c.link-ends.result c.link-ends.ensures)
    c.args.spread.now c.requires.spread).0

pub comes_to-requires-2 : goal.comes_to-requires-2
comes_to-requires-2 c =
    (told c.args.self.now c.joins_members.ensures.network c.args.link c.link-ends.result
    (there c.deref.result.now c.args.self.now (c.deref.ensures ∙ c.self.view_is) c.args.link c.link-ends.result c.link-ends.ensures)
    c.args.spread.now c.requires.spread).1

pub returns-clause-crosses : goal.returns-clause-crosses
returns-clause-crosses c rules p sent scope is =
    c.by_ends.ensures.crosses ∙ sym (by_both_ends c.args.self.now c.joins_members.ensures.network c.args.link c.link-ends.result
    (there c.deref.result.now c.args.self.now (c.deref.ensures ∙ c.self.view_is) c.args.link c.link-ends.result c.link-ends.ensures)
    (sym c.joins_members.ensures.value ∙ c.if-not-joins_members.false) c.args.spread.now c.requires.spread rules p sent scope is
    c.comes_to.result c.comes_to-2.result c.comes_to.ensures c.comes_to-2.ensures).0
    ∙ sym ((covered_spread c.args.self.now c.joins_members.ensures.network c.args.link c.requires.link c.args.spread.now c.requires.spread
    c.is_link_near.result rules p sent scope is (λ k g. c.is_link_near.ensures k g rules p sent scope is)).0
    ∙ ap (λ b. b && crosses c.args.self.now rules p sent None c.args.link) c.if-not-is_link_near.false)

pub returns-clause-dropped : goal.returns-clause-dropped
returns-clause-dropped c rules p sent scope is =
    c.by_ends.ensures.dropped ∙ sym (by_both_ends c.args.self.now c.joins_members.ensures.network c.args.link c.link-ends.result
    (there c.deref.result.now c.args.self.now (c.deref.ensures ∙ c.self.view_is) c.args.link c.link-ends.result c.link-ends.ensures)
    (sym c.joins_members.ensures.value ∙ c.if-not-joins_members.false) c.args.spread.now c.requires.spread rules p sent scope is
    c.comes_to.result c.comes_to-2.result c.comes_to.ensures c.comes_to-2.ensures).1
    ∙ sym ((covered_spread c.args.self.now c.joins_members.ensures.network c.args.link c.requires.link c.args.spread.now c.requires.spread
    c.is_link_near.result rules p sent scope is (λ k g. c.is_link_near.ensures k g rules p sent scope is)).1
    ∙ ap (λ b. b && drops_at c.args.self.now rules p sent None c.args.link) c.if-not-is_link_near.false)
