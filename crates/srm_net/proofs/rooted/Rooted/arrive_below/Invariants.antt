use Rattle.std.proofs.Common.{◌<◌}
use Rattle.srm_net.specs.Network.{Network}
use Rattle.srm_net.specs.Paths.{takes_out}
use Rattle.srm_net.specs.Rooting.{TellsTree}
use Rattle.srm_net.specs.Spreads.{TellsAbove, TellsFirst}
use Rattle.srm_net.proofs.rooted.Rooted.arrive_below.Given as goal

abbrev pub invariant-loop-node : goal.invariant-loop-node
invariant-loop-node l =
    (w : Network) → TellsTree w l.self → l.packet.from < w.nodes
    → TellsAbove w l.self.positions.items (takes_out l.drops l.packet.id) l.packet.from l.packet.sent l.initial.arrivals
    → TellsFirst w l.self.positions.items (takes_out l.drops l.packet.id) l.packet.from l.packet.sent l.node-index l.arrivals
