use Rattle.std.proofs.Common.{IfOk, subst}
use Rattle.srm_net.specs.Built.{network_inside}
use Rattle.srm_net.specs.Network.{Network}
use Rattle.srm_net.specs.Paths.{takes_out}
use Rattle.srm_net.specs.Spreads.{TellsArrivals}
use Rattle.srm_net.proofs.BuiltLemmas.{seen_below, tree_in}
use Rattle.srm_net.proofs.tree.Tree.arrivals.Goals as goal

pub arrivals-requires-clause-rooted : goal.arrivals-requires-clause-rooted
arrivals-requires-clause-rooted c = (
  network_inside c.self.inside,
  c.self.invariant.network,
  tree_in c.self.inside c.self.invariant,
  seen_below (network_inside c.self.inside) c.args.self.now c.args.packet.from c.self.view_is c.requires.from,
)

pub returns : goal.returns
returns c =
    let packet = c.args.packet in
    let tells : Network → _ = λ w. IfOk c.arrivals.result (λ all.
    TellsArrivals w (takes_out c.args.drops.now packet.id) packet.from packet.sent all.items) in
    subst tells c.self.view_is (c.arrivals.ensures (network_inside c.self.inside) (tree_in c.self.inside c.self.invariant)
    (seen_below (network_inside c.self.inside) c.args.self.now packet.from c.self.view_is c.requires.from))
