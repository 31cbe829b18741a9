use Rattle.std.proofs.Common.{sym, subst}
use Rattle.srm_net.specs.Built.{network_inside}
use Rattle.srm_net.specs.Network.{Network}
use Rattle.srm_net.specs.Spreads.{TellsHops}
use Rattle.srm_net.proofs.BuiltLemmas.{seen_below, tree_in}
use Rattle.srm_net.proofs.tree.Tree.hops_for.Goals as goal

pub hops_from-requires : goal.hops_from-requires
hops_from-requires c = record {
  rooted = (
    network_inside c.self.inside,
    c.self.invariant.network,
    tree_in c.self.inside c.self.invariant,
    seen_below (network_inside c.self.inside) c.args.self.now c.args.from c.self.view_is c.requires,
  );
}

pub returns : goal.returns
returns c =
    let told = c.in_ok-hops.ensures (network_inside c.self.inside) (tree_in c.self.inside c.self.invariant)
    (seen_below (network_inside c.self.inside) c.args.self.now c.args.from c.self.view_is c.requires) in
    subst (TellsHops c.args.self.now c.args.from) (sym c.from_vec.ensures)
    (subst (λ (w : Network). TellsHops w c.args.from c.in_ok-hops.hops.items) c.self.view_is told)
