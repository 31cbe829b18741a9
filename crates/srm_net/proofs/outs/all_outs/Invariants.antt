use Rattle.std.proofs.Common.{◌≡◌, length}
use Rattle.srm_net.specs.Network.{Network, IsNetwork}
use Rattle.srm_net.specs.Rooting.{TellsTree}
use Rattle.srm_net.proofs.ToldLemmas.{OutsBelow}
use Rattle.srm_net.proofs.outs.all_outs.Given as goal

abbrev pub invariant-loop-host : goal.invariant-loop-host
invariant-loop-host l = record {
  long : length l.outs.items ≡ l.host-index;
  told : (w : Network) → IsNetwork w → TellsTree w l.rooted → w.hosts ≡ l.hosts → OutsBelow w l.host-index l.outs.items;
}
