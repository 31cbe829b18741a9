use Rattle.std.proofs.Common.{◌<◌}
use Rattle.srm_net.specs.Network.{Network}
use Rattle.srm_net.specs.Paths.{takes_out}
use Rattle.srm_net.specs.Rooting.{at, IsRooted}
use Rattle.srm_net.proofs.Arrivals.{Climbed}
use Rattle.srm_net.proofs.rooted.Rooted.arrive_above.Given as goal

abbrev pub invariant-loop-node : goal.invariant-loop-node
invariant-loop-node l =
    (w : Network) → (r : IsRooted w l.self.positions.items) → l.packet.from < w.nodes
    → Climbed w l.self.positions.items r (takes_out l.drops l.packet.id) l.packet.from l.packet.sent l.node l.arrivals

abbrev pub decreases-loop-node : goal.decreases-loop-node
decreases-loop-node l = (at l.self.positions.items l.node).place
