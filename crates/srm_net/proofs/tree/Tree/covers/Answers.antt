use Rattle.std.proofs.Common.{◌≡◌, ◌∙◌, refl, ap, sym, max, nat_le}
use Rattle.srm_net.specs.Built.{network_inside}
use Rattle.srm_net.specs.Network.{Network}
use Rattle.srm_net.specs.Paths.{host, hops_between}
use Rattle.srm_net.specs.Tables.{covers}
use Rattle.srm_net.proofs.Walks.{same_link}
use Rattle.srm_net.proofs.BuiltLemmas.{seen_below, link_seen, end_below, rooted_in}
use Rattle.srm_net.proofs.tree.Tree.covers.Goals as goal

pub hops-to_a-requires : goal.hops-to_a-requires
hops-to_a-requires c = record {
  rooted = (
    network_inside c.self.inside,
    c.self.invariant.network,
    rooted_in c.self.inside c.self.invariant,
    seen_below (network_inside c.self.inside) c.args.self.now c.host-from.result c.self.view_is c.host-from.ensures.node,
    (end_below c.self.inside c.self.invariant c.args.link c.link-ends.result (link_seen (network_inside c.self.inside) c.args.self.now
        c.self.view_is c.args.link c.link-ends.result c.link-ends.ensures)).0,
  );
}

pub hops-to_b-requires : goal.hops-to_b-requires
hops-to_b-requires c = record {
  rooted = (
    network_inside c.self.inside,
    c.self.invariant.network,
    rooted_in c.self.inside c.self.invariant,
    seen_below (network_inside c.self.inside) c.args.self.now c.host-from.result c.self.view_is c.host-from.ensures.node,
    (end_below c.self.inside c.self.invariant c.args.link c.link-ends.result (link_seen (network_inside c.self.inside) c.args.self.now
        c.self.view_is c.args.link c.link-ends.result c.link-ends.ensures)).1,
  );
}

pub returns : goal.returns
returns c k g =
    let w = c.args.self.now in
    let n = network_inside c.self.inside in
    let u = c.host-from.result in
    let ends = c.link-ends.result in
    let here = seen_below n w u c.self.view_is c.host-from.ensures.node in
    let below = end_below c.self.inside c.self.invariant c.args.link ends
    (link_seen n w c.self.view_is c.args.link ends c.link-ends.ensures) in
    let rooted = rooted_in c.self.inside c.self.invariant in
    let to_a : c.hops-to_a.result ≡ hops_between w u ends.a = c.hops-to_a.ensures n rooted here below.0
    ∙ ap (λ (v : Network). hops_between v u ends.a) c.self.view_is in
    let to_b : c.hops-to_b.result ≡ hops_between w u ends.b = c.hops-to_b.ensures n rooted here below.1
    ∙ ap (λ (v : Network). hops_between v u ends.b) c.self.view_is in
    ap (λ f. nat_le f c.in-Some.most)
    (c.from.ensures ∙ c.max-farther.ensures ∙ ap (λ x. max x c.hops-to_b.result) to_a ∙ ap (max (hops_between w u ends.a)) to_b)
    ∙ ap (λ o. covers w o u ends) (sym c.in-Some.is)
    ∙ ap (λ v. covers w c.args.scope v ends) c.host-from.ensures.value
    ∙ ap (covers w c.args.scope (host w c.args.m)) (same_link w.links c.args.link c.args.link ends k refl c.link-ends.ensures g)
