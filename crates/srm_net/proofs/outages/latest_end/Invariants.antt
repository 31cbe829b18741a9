use Rattle.std.proofs.Common.{◌≡◌, ℕ, take, nat_lt}
use Rattle.srm_net.specs.DropRules.{some_ends_after}
use Rattle.srm_net.proofs.outages.latest_end.Given as goal

abbrev pub invariant-loop-outage : goal.invariant-loop-outage
invariant-loop-outage l = (t : ℕ) → nat_lt t l.latest ≡ some_ends_after (take l.outage-index l.outages) t
