use Rattle.std.proofs.Common.{◌≢◌, ◌<◌}
use Rattle.srm_net.specs.Network.{Network}
use Rattle.srm_net.specs.Rooting.{at, IsRooted, IsHeld}
use Rattle.srm_net.proofs.rooted.Rooted.child_above.Given as goal

abbrev pub invariant-loop-node : goal.invariant-loop-node
invariant-loop-node l =
    (w : Network) → IsRooted w l.self.positions.items → l.from < w.nodes → l.to < w.nodes
    → (l.node < w.nodes) × (l.from ≢ l.node) × IsHeld (at l.self.positions.items l.from) (at l.self.positions.items l.node)
    × IsHeld (at l.self.positions.items l.node) (at l.self.positions.items l.to)

abbrev pub decreases-loop-node : goal.decreases-loop-node
decreases-loop-node l = (at l.self.positions.items l.node).place
