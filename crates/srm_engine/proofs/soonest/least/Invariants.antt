use Rattle.std.proofs.Common.{◌≡◌, take}
use Rattle.srm_engine.specs.Soonest.{first_time}
use Rattle.srm_engine.proofs.soonest.least.Given as goal

abbrev pub invariant-loop-soonest : goal.invariant-loop-soonest
invariant-loop-soonest l = l.best ≡ first_time l.until (take l.soonest-index l.soon)
