-- Jobs: own runs of some cells, and what they tell.
use Rattle.std.specs.Prelude.{◌≡◌, ◌≢◌, ◌⊎◌, ◌<◌, ◌≤◌, ℕ, length, map, All, List, [], ◌∷◌, Result, Ok, Err}
use Rattle.std.specs.Global.{Vec}
use Rattle.srm_net.specs.Network.{Network}
use Rattle.srm_scenario.specs.Plain.{PlainScenario}
use Rattle.srm_member.specs.declared.row.Row.{Row}
use Rattle.srm_member.specs.Record.{Record}
use Rattle.srm_cell.specs.declared.cell.Cell.{Cell}
use Rattle.srm_cell.specs.declared.job.Job.{Job}
use Rattle.srm_cell.specs.declared.job.Done as job
use Rattle.srm_cell.specs.declared.fault.CellFault.{CellFault}
use Rattle.srm_cell.specs.declared.fault.CellFault.TheVariants as fault
use Rattle.srm_cell.specs.Setting.{Traffic, traffic_of}
use Rattle.srm_cell.specs.Cells.{OwnCell, StepOutcome, Idle, Full, Spent, Stepped, own_step}
use Rattle.srm_cell.specs.OwnRuns.{own_end, IsOwnRun, MeetsFull, MeetsSpent}
use Rattle.srm_cell.specs.Crossings.{joined, crossings}
use Rattle.srm_cell.specs.Views.{IsSoundCell, GoesOn, HasWork, plain_cell, own_cell, step_of}
use Rattle.srm_net.specs.Limits.{end_of_time}

-- a job as it is seen
pub record PlainJob : Type 0 where
  pub place : ℕ
  pub till : ℕ
  pub cells : List OwnCell

-- each cell is that of one of so many members
abbrev pub AreMembers : ℕ → List OwnCell → Type 0
AreMembers members [] = Unit {0}
AreMembers members (q ∷ qs) = (q.member < members) × AreMembers members qs

-- of the own runs to an end, taken one after the other, the first that does not come to the end ends with this
abbrev pub FirstEnds : StepOutcome Stepped → ℕ → List OwnCell → Type 0
FirstEnds o till [] = ⊥
FirstEnds o till (q ∷ qs) =
    ((n : ℕ) × (own_end till q.member n q.cell ≡ o))
    ⊎ (((n : ℕ) × (own_end till q.member n q.cell ≡ Idle)) × FirstEnds o till qs)

-- own runs, taken one after the other, ask for memory: for the first cell's first own step, or to keep the first cell
-- and its rows. They ask for none where there is no cell, or where the first has an event at once and no member to
-- answer it
abbrev pub AskMemory : ℕ → List OwnCell → Type 0
AskMemory till [] = ⊥
AskMemory till (q ∷ qs) = own_step till q.member q.cell ≢ Spent

-- what a refusal of own runs tells, taken one after the other
abbrev pub TellsFault : ℕ → List OwnCell → CellFault → Type 0
TellsFault till qs fault.NoMemory = AskMemory till qs
TellsFault till qs fault.Spent = FirstEnds Spent till qs
TellsFault till qs fault.CountFull = FirstEnds Full till qs

module _ {M : Type 0} where
  -- the cells are sound, where f is what is seen of a box
  abbrev pub AreSound : (M → Record) → List (Cell M) → Type 0
  AreSound f cs = All (IsSoundCell f) cs

  -- the cells as they are seen
  abbrev pub own_cells : (M → Record) → List (Cell M) → List OwnCell
  own_cells f cs = map (own_cell f) cs

  -- the job as it is seen
  abbrev pub plain_job : (M → Record) → Job M → PlainJob
  plain_job f j = record { place = j.place; till = j.till; cells = own_cells f j.cells.items }

  -- what the calls that advance a job ask of it: its cells are sound and few, and each is that of a member
  pub record MayAdvance (f : M → Record) (members : ℕ) (j : Job M) : Type 0 where
    pub sound : AreSound f j.cells.items
    pub till : j.till ≤ end_of_time
    pub few : length j.cells.items ≤ 1024
    pub of_members : AreMembers members (own_cells f j.cells.items)

  -- the cell has these rows in its own run to an end, and is then this one
  pub record RanAlone (f : M → Record) (till : ℕ) (old : Cell M) (rows : List Row) (new : Cell M) : Type 0 where
    pub run : IsOwnRun till old.number (plain_cell f old) rows (plain_cell f new)
    pub on : GoesOn f old new

  -- so each of the cells
  abbrev pub RanEach : (M → Record) → ℕ → List (Cell M) → List (List Row) → List (Cell M) → Type 0
  RanEach f till [] [] [] = Unit {0}
  RanEach f till (c ∷ cs) (rows ∷ more) (d ∷ ds) = RanAlone f till c rows d × RanEach f till cs more ds
  RanEach f till cs more ds = ⊥

  -- what an own run tells. Memory is asked for only where its first step has work. After a refusal nothing is known of
  -- the cell
  abbrev pub TellsRun : (M → Record) → ℕ → Cell M
      → Result (List Row) CellFault → Cell M → Type 0
  TellsRun f till old (Ok rows) new = RanAlone f till old rows new
  TellsRun f till old (Err fault.NoMemory) new = HasWork (step_of f till old)
  TellsRun f till old (Err fault.Spent) new = MeetsSpent till old.number (plain_cell f old)
  TellsRun f till old (Err fault.CountFull) new = MeetsFull till old.number (plain_cell f old)

  -- what an own run to an end tells of a sound cell
  abbrev pub Runs : (M → Record) → ℕ → Cell M → Result (List Row) CellFault → Cell M → Type 0
  Runs f till old result new = IsSoundCell f old → TellsRun f till old result new

  -- what own runs of sound cells tell, one after the other, after which these are the cells
  abbrev pub TellsRuns : (M → Record) → ℕ → List (Cell M)
      → Result (Vec (List Row)) CellFault → List (Cell M) → Type 0
  TellsRuns f till old (Ok rows) new = RanEach f till old rows.items new
  TellsRuns f till old (Err e) new = TellsFault till (own_cells f old) e

  abbrev pub RunEach : (M → Record) → ℕ → List (Cell M)
      → Result (Vec (List Row)) CellFault → List (Cell M) → Type 0
  RunEach f till old result new = AreSound f old → TellsRuns f till old result new

  -- this is done of a job: its cells' own runs, and the crossings of their rows
  pub record IsDone (f : M → Record) (t : Traffic) (j : Job M) (d : job.Done M) : Type 0 where
    pub place : d.place ≡ j.place
    pub runs : RanEach f j.till j.cells.items d.rows.items d.cells.items
    pub crossings_are : d.crossings ≡ crossings t (joined d.rows.items)

  -- what advancing a job tells
  abbrev pub Advances : (M → Record) → PlainScenario → Network → Job M → Result (job.Done M) CellFault → Type 0
  Advances f k net j (Ok d) = IsDone f (traffic_of k net) j d
  Advances f k net j (Err e) = TellsFault j.till (own_cells f j.cells.items) e
