use Rattle.std.proofs.Common.{◌≡◌, ◌∙◌, ◌+◌, sym, ap, subst, arith}
use Rattle.srm_net.specs.Network.{Network, IsNetwork}
use Rattle.srm_net.specs.Paths.{host, distance, round}
use Rattle.srm_net.specs.Rooting.{takes}
use Rattle.srm_net.specs.Built.{network_inside}
use Rattle.srm_net.proofs.BuiltLemmas.{seen_below, rooted_in}
use Rattle.srm_net.proofs.PathLaws.{distance_bounded, distance_apart}
use Rattle.srm_net.proofs.tree.Tree.round.Goals as goal

pub round-requires : goal.round-requires
round-requires c = record {
  rooted = (
    network_inside c.self.inside,
    c.self.invariant.network,
    rooted_in c.self.inside c.self.invariant,
    seen_below (network_inside c.self.inside) c.args.self.now c.host.result c.self.view_is c.host.ensures.node,
    seen_below (network_inside c.self.inside) c.args.self.now c.host-2.result c.self.view_is c.host-2.ensures.node,
  );
}

value : (c : goal.After-round) → c.round.result ≡ round c.args.self.now c.args.a c.args.b
unfolding distance
value c =
    let there = c.host.ensures.value in
    let back = c.host-2.ensures.value in
    c.round.ensures (network_inside c.self.inside) (rooted_in c.self.inside c.self.invariant)
    (seen_below (network_inside c.self.inside) c.args.self.now c.host.result c.self.view_is c.host.ensures.node)
    (seen_below (network_inside c.self.inside) c.args.self.now c.host-2.result c.self.view_is c.host-2.ensures.node)
    ∙ ap (λ (w : Network). takes w c.host.result c.host-2.result + takes w c.host-2.result c.host.result) c.self.view_is
    ∙ ap (λ u. takes c.args.self.now u c.host-2.result + takes c.args.self.now c.host-2.result u) there
    ∙ ap (λ v. takes c.args.self.now (host c.args.self.now c.args.a) v + takes c.args.self.now v (host c.args.self.now c.args.a)) back

pub returns-clause-value : goal.returns-clause-value
returns-clause-value c = value c

network : (c : goal.After-round) → IsNetwork c.args.self.now
network c = subst IsNetwork c.self.view_is c.self.invariant.network

pub returns-clause-apart : goal.returns-clause-apart
returns-clause-apart c d =
    let there = distance_apart c.args.self.now (network c) c.args.a c.args.b c.requires.a c.requires.b d in
    let back = distance_apart c.args.self.now (network c) c.args.b c.args.a c.requires.b c.requires.a (λ e. d (sym e)) in
    let all = value c in
    omega arith

pub returns-clause-bounded : goal.returns-clause-bounded
returns-clause-bounded c =
    let there = distance_bounded c.args.self.now (network c) c.args.a c.args.b c.requires.a c.requires.b in
    let back = distance_bounded c.args.self.now (network c) c.args.b c.args.a c.requires.b c.requires.a in
    let all = value c in
    omega arith
