-- What holds of every cell.
use Rattle.std.specs.Prelude.{◌≡◌, ℕ, List, [], ◌++◌, Some, None, Ok}
use Rattle.srm_net.specs.Keys.{key_cmp}
use Rattle.srm_net.specs.Orders.{Rises, NoneBelow}
use Rattle.srm_scenario.specs.Plain.{PlainScenario, mark_cmp, with_seed}
use Rattle.srm_scenario.specs.Accepted.{IsAccepted}
use Rattle.srm_scenario.specs.Faults.{scenario_of_text}
use Rattle.srm_member.specs.declared.row.Row.{Row}
use Rattle.srm_cell.specs.Setting.{Traffic, IsFit, setting_of}
use Rattle.srm_cell.specs.Flights.{flight_cmp}
use Rattle.srm_cell.specs.Cells.{PlainCell, Event, next_event, pending_keys}
use Rattle.srm_cell.specs.OwnRuns.{IsOwnRun}
use Rattle.srm_cell.specs.Crossings.{crossings, added_each}

-- an own run has one result
abbrev pub OwnRunsAreOne : Type 0
OwnRunsAreOne =
    (till m : ℕ) (c : PlainCell) (qs rs : List Row) (d e : PlainCell)
    → IsOwnRun till m c qs d → IsOwnRun till m c rs e → (qs ≡ rs) × (d ≡ e)

-- the setting of an accepted scenario is fit
abbrev pub SettingsAreFit : Type 0
SettingsAreFit = (s : PlainScenario) (seed : ℕ) → IsAccepted s → IsFit (setting_of s seed)

-- and so is, with every seed, by which packets are lost too, that of the scenario of a text
abbrev pub SettingsOfTextsAreFit : Type 0
SettingsOfTextsAreFit =
    (text : List ℕ) (s : PlainScenario) (seed : ℕ) → scenario_of_text text ≡ Ok s
    → IsFit (setting_of (with_seed s seed) seed)

-- the crossings of two lists of rows together are those of each, added
abbrev pub CrossingsAdd : Type 0
CrossingsAdd = (t : Traffic) (qs rs : List Row) → crossings t (qs ++ rs) ≡ added_each (crossings t qs) (crossings t rs)

-- a cell whose inbox and script rise has nothing pending before its next event, and nothing at all where it has none
abbrev pub NextEventsAreLeast : Type 0
NextEventsAreLeast =
    (m : ℕ) (c : PlainCell) → Rises flight_cmp c.inbox → Rises mark_cmp c.script
    → ((e : Event) → next_event m c ≡ Some e → NoneBelow key_cmp e.key (pending_keys m c))
    × (next_event m c ≡ None → pending_keys m c ≡ [])
