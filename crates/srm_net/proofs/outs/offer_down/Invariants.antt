use Rattle.srm_net.specs.Nearness.{TellsDownTo}
use Rattle.srm_net.specs.Network.{Network, IsNetwork}
use Rattle.srm_net.specs.Rooting.{TellsTree}
use Rattle.srm_net.proofs.outs.offer_down.Given as goal

abbrev pub invariant-loop-index : goal.invariant-loop-index
invariant-loop-index l =
    (w : Network) → IsNetwork w → TellsTree w l.rooted → TellsDownTo w l.rooted.positions.items 1 l.initial.table
    → TellsDownTo w l.rooted.positions.items l.index l.table
