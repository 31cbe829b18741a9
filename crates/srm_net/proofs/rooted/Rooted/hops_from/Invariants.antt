use Rattle.std.proofs.Common.{◌<◌}
use Rattle.srm_net.specs.Network.{Network}
use Rattle.srm_net.specs.Rooting.{TellsTree}
use Rattle.srm_net.proofs.HopTables.{Counted}
use Rattle.srm_net.proofs.rooted.Rooted.hops_from.Given as goal

abbrev pub invariant-loop-node : goal.invariant-loop-node
invariant-loop-node l =
    (w : Network) → (t : TellsTree w l.fn.self) → l.fn.from < w.nodes
    → Counted w l.fn.self.positions.items t.rooted l.fn.from l.node-index l.hops.items
