use Rattle.std.proofs.Common.{◌≡◌, take, reverse}
use Rattle.srm_net.specs.Growth.{attached}
use Rattle.srm_net.proofs.rooted.in_order.Given as goal

abbrev pub invariant-loop-step : goal.invariant-loop-step
invariant-loop-step l = l.order.items ≡ reverse (attached (reverse (take l.step-index l.steps)))
