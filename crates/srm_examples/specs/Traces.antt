-- The trace of a text.
use Rattle.std.specs.Prelude.{◌≡◌, ℕ, List, Ok}
use Rattle.srm_scenario.specs.Faults.{scenario_of_text}
use Rattle.srm_scenario.specs.Plain.{PlainScenario, with_seed}
use Rattle.srm_cell.specs.Setting.{setting_of}
use Rattle.srm_model.specs.World.{World, IsLast}
use Rattle.srm_report.specs.Trace.{trace_of_rows}

-- the text describes a scenario whose sequential run, with random words and losses of this seed, ends in a world, and
-- these bytes are the text of that world's rows
abbrev pub IsTraceOf : List ℕ → ℕ → List ℕ → Type 0
IsTraceOf text seed bytes =
    (p : PlainScenario) × (scenario_of_text text ≡ Ok p)
    × ((w : World) × IsLast (setting_of (with_seed p seed) seed) w × (bytes ≡ trace_of_rows w.trace))
