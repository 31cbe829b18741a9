use Rattle.std.proofs.Common.{◌≡◌, ℕ, take}
use Rattle.srm_cell.specs.Jobs.{own_cells}
use Rattle.srm_engine.specs.Seen.{AreFrom}
use Rattle.srm_engine.specs.Starts.{setting_on}
use Rattle.srm_engine.specs.Soonest.{soonest_of}
use Rattle.srm_engine.proofs.soonest.soonest_in.Given as goal

abbrev pub invariant-loop-index : goal.invariant-loop-index
invariant-loop-index g l =
    (seed : ℕ) → AreFrom g.M.Participant.plain l.first l.cells
    → l.soonest ≡ soonest_of (setting_on l.session seed) (take l.index (own_cells g.M.Participant.plain l.cells))
