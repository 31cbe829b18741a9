-- The boxes that a run is given, and the cells that it opens.
use Rattle.std.specs.Prelude.{◌≡◌, ℕ, List, [], ◌∷◌, length, map}
use Rattle.std.specs.List.{range_with_len}
use Rattle.srm_scenario.specs.Plain.{PlainScenario}
use Rattle.srm_member.specs.Record.{Record, opening_record, fixed_part}
use Rattle.srm_cell.specs.declared.cell.Cell.{Cell}
use Rattle.srm_cell.specs.Setting.{Setting, setting_of, fixed_of}
use Rattle.srm_model.specs.World.{opening_cells}
use Rattle.srm_engine.specs.Seen.{AreCellsInOrder}

-- the records are the opening records of all members of the scenario, in order of their numbers
abbrev pub HoldOpeningRecords : PlainScenario → ℕ → List Record → Type 0
HoldOpeningRecords p seed rs = rs ≡ map (λ m. opening_record (fixed_of p seed m)) (range_with_len 0 (length p.members))

-- the seed that stands in the records, if there is one
abbrev pub seed_in : List Record → ℕ
seed_in [] = 0
seed_in (r ∷ rs) = (fixed_part r).seed

-- the records are the opening records of all members, for the seed that stands in them
abbrev pub IsOpening : PlainScenario → List Record → Type 0
IsOpening p rs = HoldOpeningRecords p (seed_in rs) rs

-- this holds of each run that begins with these records: its setting has a seed whose opening records they are
abbrev pub InRuns : PlainScenario → List Record → (Setting → Type 0) → Type 0
InRuns p rs holds = (seed : ℕ) → HoldOpeningRecords p seed rs → holds (setting_of p seed)

-- the records are so with some seed
abbrev pub MayOpen : PlainScenario → List Record → Type 0
MayOpen p rs = (seed : ℕ) × HoldOpeningRecords p seed rs

module _ {M : Type 0} where
  -- the cells of all members at the beginning, with the seed of which the records are
  abbrev pub Opens : (M → Record) → PlainScenario → List Record → List (Cell M) → Type 0
  Opens f p rs cs = InRuns p rs (λ s. AreCellsInOrder f cs (opening_cells s (length p.members) 0))
