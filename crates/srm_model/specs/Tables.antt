-- What the tables of a report require of the rows of a run.
use Rattle.std.specs.Prelude.{◌≡◌, ℕ, List, ◌++◌, length}
use Rattle.srm_scenario.specs.Plain.{PlainScenario}
use Rattle.srm_scenario.specs.Accepted.{IsAccepted}
use Rattle.srm_member.specs.declared.row.Row.{Row}
use Rattle.srm_member.specs.Orderly.{IsOrderly}
use Rattle.srm_cell.specs.Setting.{setting_of}
use Rattle.srm_model.specs.World.{World, IsReached}

-- the rows of every sequential run of an accepted scenario, and those of each first part of it, are orderly
abbrev pub TracesAreOrderly : Type 0
TracesAreOrderly =
    (p : PlainScenario) (seed : ℕ) → IsAccepted p → (w : World) → IsReached (setting_of p seed) w
    → (before after : List Row) → w.trace ≡ before ++ after → IsOrderly (length p.members) before
