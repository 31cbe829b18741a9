-- That what is read is accepted.
use Rattle.std.specs.Prelude.{◌≡◌, ℕ, List, Ok}
use Rattle.toml.specs.Data.{Members}
use Rattle.srm_scenario.specs.Plain.{PlainScenario}
use Rattle.srm_scenario.specs.Accepted.{IsAccepted}
use Rattle.srm_scenario.specs.Faults.{scenario_of_table, scenario_of_text}

-- the scenario of a table is accepted
abbrev pub TablesGiveAccepted : Type 0
TablesGiveAccepted = (ms : Members) (s : PlainScenario) → scenario_of_table ms ≡ Ok s → IsAccepted s

-- and so is the scenario of a text
abbrev pub TextsGiveAccepted : Type 0
TextsGiveAccepted = (text : List ℕ) (s : PlainScenario) → scenario_of_text text ≡ Ok s → IsAccepted s
