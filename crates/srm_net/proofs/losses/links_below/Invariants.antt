use Rattle.std.proofs.Common.{◌<◌, ℕ}
use Rattle.srm_net.specs.LossTables.{loss_at}
use Rattle.srm_net.proofs.losses.links_below.Given as goal

abbrev pub invariant-loop-loss : goal.invariant-loop-loss
invariant-loop-loss l = (i : ℕ) → i < l.loss-index → (loss_at l.losses i).link < l.below
