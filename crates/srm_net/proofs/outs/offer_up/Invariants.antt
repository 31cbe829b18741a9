use Rattle.srm_net.specs.Nearness.{IsSound, TellsOwn, TellsUpTo}
use Rattle.srm_net.specs.Network.{Network, IsNetwork}
use Rattle.srm_net.specs.Rooting.{TellsTree}
use Rattle.srm_net.proofs.outs.offer_up.Given as goal

abbrev pub invariant-loop-index : goal.invariant-loop-index
invariant-loop-index l =
    (w : Network) → IsNetwork w → TellsTree w l.rooted → IsSound w l.initial.table → TellsOwn w l.initial.table
    → TellsUpTo w l.rooted.positions.items l.index l.table
