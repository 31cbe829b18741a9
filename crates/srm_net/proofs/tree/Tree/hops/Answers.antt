use Rattle.std.proofs.Common.{◌∙◌, ap}
use Rattle.srm_net.specs.Network.{Network}
use Rattle.srm_net.specs.Paths.{host, hops_between, hops}
use Rattle.srm_net.specs.Built.{network_inside}
use Rattle.srm_net.proofs.BuiltLemmas.{seen_below, rooted_in}
use Rattle.srm_net.proofs.tree.Tree.hops.Goals as goal

pub hops-requires : goal.hops-requires
hops-requires c = record {
  rooted = (
    network_inside c.self.inside,
    c.self.invariant.network,
    rooted_in c.self.inside c.self.invariant,
    seen_below (network_inside c.self.inside) c.args.self.now c.host.result c.self.view_is c.host.ensures.node,
    seen_below (network_inside c.self.inside) c.args.self.now c.host-2.result c.self.view_is c.host-2.ensures.node,
  );
}

pub returns-clause-value : goal.returns-clause-value
unfolding hops
returns-clause-value c =
    c.hops.ensures (network_inside c.self.inside) (rooted_in c.self.inside c.self.invariant)
    (seen_below (network_inside c.self.inside) c.args.self.now c.host.result c.self.view_is c.host.ensures.node)
    (seen_below (network_inside c.self.inside) c.args.self.now c.host-2.result c.self.view_is c.host-2.ensures.node)
    ∙ ap (λ (w : Network). hops_between w c.host.result c.host-2.result) c.self.view_is
    ∙ ap (λ u. hops_between c.args.self.now u c.host-2.result) c.host.ensures.value
    ∙ ap (λ v. hops_between c.args.self.now (host c.args.self.now c.args.a) v) c.host-2.ensures.value
