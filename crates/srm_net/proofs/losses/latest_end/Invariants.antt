use Rattle.std.proofs.Common.{◌≡◌, ℕ, take}
use Rattle.srm_net.specs.Losses.{is_before_end, some_goes_on_after}
use Rattle.srm_net.proofs.losses.latest_end.Given as goal

abbrev pub invariant-loop-loss : goal.invariant-loop-loss
invariant-loop-loss l = (t : ℕ) → is_before_end l.latest t ≡ some_goes_on_after (take l.loss-index l.losses) t
