-- What is seen of the cells and next times of all members.
use Rattle.std.specs.Prelude.{◌≡◌, ℕ, List, map, Option, Some, None, Result, Ok, Err, length, slice_get, slice_set}
use Rattle.std.specs.List.{range_with_len}
use Rattle.srm_net.specs.declared.packet.Packet.{Packet}
use Rattle.srm_net.specs.declared.packet.PacketId.{PacketId}
use Rattle.srm_member.specs.declared.row.Row.{Row}
use Rattle.srm_member.specs.Record.{Record}
use Rattle.srm_cell.specs.declared.cell.Cell.{Cell}
use Rattle.srm_cell.specs.declared.fault.CellFault.{CellFault}
use Rattle.srm_cell.specs.Flights.{BringsNone}
use Rattle.srm_cell.specs.Cells.{PlainCell, hear_at, own_step, time_of, StepOutcome, Idle}
use Rattle.srm_cell.specs.Cells.{Done, Stepped}
use Rattle.srm_cell.specs.Views.{Refuses, event_of, plain_cell}
use Rattle.srm_cell.specs.Jobs.{AreSound}
use Rattle.srm_engine.specs.declared.cells.Cells.{Cells}

module _ {M : Type 0} where
  -- the cells as they are seen, where f is what is seen of a box
  abbrev pub plain_cells : (M → Record) → List (Cell M) → List PlainCell
  plain_cells f cs = map (plain_cell f) cs

  -- their next times
  abbrev pub times_of : (M → Record) → List (Cell M) → List (Option ℕ)
  times_of f cs = map (λ c. time_of (event_of f c)) cs

  -- they are sound, and are those of member i and of those after it, in the order of their members' numbers
  pub record AreFrom (f : M → Record) (i : ℕ) (cs : List (Cell M)) : Type 0 where
    pub sound : AreSound f cs
    pub numbers : map (λ c. c.number) cs ≡ range_with_len i (length cs)

  -- they are those of all members
  abbrev pub AreInOrder : (M → Record) → List (Cell M) → Type 0
  AreInOrder f cs = AreFrom f 0 cs

  -- so are these, and are seen as these plain cells
  abbrev pub AreCellsInOrder : (M → Record) → List (Cell M) → List PlainCell → Type 0
  AreCellsInOrder f cs ps = AreInOrder f cs × (plain_cells f cs ≡ ps)

  -- they stand so, with their next times
  pub record AreSeen (f : M → Record) (cs : List (Cell M)) (ts : List (Option ℕ)) : Type 0 where
    pub order : AreInOrder f cs
    pub times : ts ≡ times_of f cs

  -- so are the cells of all members
  abbrev pub AreWhole : (M → Record) → Cells M → Type 0
  AreWhole f cs = AreSeen f cs.cells.items cs.times

  -- all cells as they are seen
  abbrev pub shown_in : (M → Record) → Cells M → List PlainCell
  shown_in f cs = plain_cells f cs.cells.items

  -- the cells are those of all members, and are seen as these plain cells
  abbrev pub ShowCells : (M → Record) → Cells M → List PlainCell → Type 0
  ShowCells f cs ps = AreWhole f cs × (shown_in f cs ≡ ps)

  -- the times are the next times of the cells, in order
  abbrev pub AreNextTimes : (M → Record) → List (Cell M) → List (Option ℕ) → Type 0
  AreNextTimes f cs ts = (length ts ≡ length cs) × (AreSound f cs → ts ≡ times_of f cs)

  -- these cells, with their next times
  abbrev pub IsIndexOf : (M → Record) → List (Cell M) → Cells M → Type 0
  IsIndexOf f cs indexed = AreInOrder f cs → AreSeen f cs indexed.times × (indexed.cells.items ≡ cs)

  -- what a member's own step tells, and what it leaves
  abbrev pub TellsOwnStep : (M → Record) → ℕ → List PlainCell → StepOutcome Stepped
      → Result (Option Row) CellFault → List (Cell M) → List (Option ℕ) → Type 0
  TellsOwnStep f m ps o (Ok None) cs ts = (o ≡ Idle) × AreSeen f cs ts × (plain_cells f cs ≡ ps)
  TellsOwnStep f m ps o (Ok (Some row)) cs ts =
      (p : PlainCell) × (o ≡ Done (record { cell = p; row = row })) × AreSeen f cs ts
      × (plain_cells f cs ≡ slice_set ps m p)
  TellsOwnStep f m ps o (Err e) cs ts = Refuses o e

  -- so of the cells that there are
  abbrev pub TakesStep : (M → Record) → ℕ → ℕ → Cells M → Result (Option Row) CellFault → Cells M
      → Type 0
  TakesStep f m till old r new =
      AreWhole f old → (c : Cell M) → slice_get old.cells.items m ≡ Some c
      → TellsOwnStep f m (shown_in f old) (own_step till m (plain_cell f c)) r new.cells.items new.times

  -- the cell of member m has no such packet on its way
  abbrev pub IsNewAt : ℕ → PacketId → Cells M → Type 0
  IsNewAt m id cs = (c : Cell M) → slice_get cs.cells.items m ≡ Some c → BringsNone id c.inbox

  -- after member m was handed a packet, which arrives at a tick
  abbrev pub HandsTo : (M → Record) → ℕ → Packet → ℕ → Cells M → Cells M → Type 0
  HandsTo f m p at old new =
      AreWhole f old → (c : Cell M) → slice_get old.cells.items m ≡ Some c
      → ShowCells f new (slice_set (shown_in f old) m (hear_at p (Some at) (plain_cell f c)))
