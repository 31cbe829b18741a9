use Rattle.std.proofs.Common.{◌≡◌, ◌∙◌, ◌<◌, ◌≤◌, Some, length, ℕ, slice_get, sym, ap, subst, arith}
use Rattle.srm_net.specs.Limits.{most_nodes}
use Rattle.srm_net.specs.Network.{Network}
use Rattle.srm_net.specs.Paths.{hops}
use Rattle.srm_net.proofs.HopListLemmas.{hops_at, no_hops, few_hops}
use Rattle.srm_net.proofs.hops.HopsFrom.get.Goals as goal

pub returns-then-member-members-clause-value : goal.returns-then-member-members-clause-value
returns-then-member-members-clause-value c =
    let w = c.self.inside.tree.value in
    let m = c.self.inside.member in
    let b = c.args.member in
    let all : c.members.result ≡ length w.hosts = c.members.ensures.members ∙ ap (λ (v : Network). length v.hosts) c.deref.ensures in
    let lt : b < length w.hosts = let h = c.if-member-members.true in omega arith in
    let value : c.hops.result ≡ hops w m b = c.hops.ensures.value
    ∙ ap (λ (v : Network). hops v m b) c.deref-then-member-members.ensures in
    ap Some value ∙ sym (hops_at w m b lt) ∙ ap (λ hs. slice_get hs b) c.self.view_is

pub returns-then-member-members-clause-bounded : goal.returns-then-member-members-clause-bounded
returns-then-member-members-clause-bounded c =
    let t = c.deref-then-member-members.result.now in
    let w = c.self.inside.tree.value in
    let m = c.self.inside.member in
    let b = c.args.member in
    let same : t ≡ w = c.deref-then-member-members.ensures in
    let all : c.members.result ≡ length w.hosts = c.members.ensures.members ∙ ap (λ (v : Network). length v.hosts) c.deref.ensures in
    let lt : b < length w.hosts = let h = c.if-member-members.true in omega arith in
    let below = λ (n : ℕ) (h : n < length w.hosts). subst (λ (v : Network). n < length v.hosts) (sym same) h in
    subst (λ n. n < most_nodes) (sym c.hops.ensures.value)
    (few_hops t m c.hops.ensures.network (below m c.self.invariant) b (below b lt))

pub returns-else-member-members-clause-value : goal.returns-else-member-members-clause-value
returns-else-member-members-clause-value c =
    let w = c.self.inside.tree.value in
    let b = c.args.member in
    let all : c.members.result ≡ length w.hosts = c.members.ensures.members ∙ ap (λ (v : Network). length v.hosts) c.deref.ensures in
    let past : length w.hosts ≤ b = let h = c.if-member-members.false in omega arith in
    sym (no_hops w c.self.inside.member b past) ∙ ap (λ hs. slice_get hs b) c.self.view_is
