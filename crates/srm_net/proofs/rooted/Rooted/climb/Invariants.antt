use Rattle.std.proofs.Common.{◌+◌, ◌<◌}
use Rattle.srm_net.specs.declared.position.Position.{Position}
use Rattle.srm_net.specs.Network.{Network}
use Rattle.srm_net.specs.Rooting.{at, IsRooted, IsMeeting}
use Rattle.srm_net.proofs.rooted.Rooted.climb.Given as goal

abbrev pub invariant-loop-near : goal.invariant-loop-near
invariant-loop-near l =
    (w : Network) → IsRooted w l.self.positions.items → l.from < w.nodes → l.to < w.nodes
    → (l.near < w.nodes) × (l.far < w.nodes)
    × ((q : Position) → IsMeeting w l.self.positions.items l.near l.far q → IsMeeting w l.self.positions.items l.from l.to q)

abbrev pub decreases-loop-near : goal.decreases-loop-near
decreases-loop-near l = (at l.self.positions.items l.near).place + (at l.self.positions.items l.far).place
