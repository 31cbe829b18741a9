use Rattle.std.proofs.Common.{◌≡◌, ℕ, take}
use Rattle.srm_engine.specs.Starts.{setting_on}
use Rattle.srm_engine.specs.Groups.{AreGrouped}
use Rattle.srm_engine.specs.Soonest.{soon_in}
use Rattle.srm_engine.proofs.soonest.soonest_of_each.Given as goal

abbrev pub invariant-loop-index : goal.invariant-loop-index
invariant-loop-index g l =
    (seed : ℕ) → AreGrouped g.M.Participant.plain l.cut l.groups
    → l.soonest.items ≡ take l.index (soon_in g.M.Participant.plain (setting_on l.session seed) l.groups)
