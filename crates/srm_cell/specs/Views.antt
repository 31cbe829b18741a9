-- What is seen of a cell, and what its calls tell.
use Rattle.std.specs.Prelude.{◌≡◌, ◌⊎◌, ◌-◌, ◌^◌, ℕ, min, List, Option, Some, None, Result, Ok, Err, []}
use Rattle.std.specs.Global.{Box}
use Rattle.srm_scenario.specs.declared.mark.Mark.{Mark}
use Rattle.srm_member.specs.declared.exit.Exit.{Exit}
use Rattle.srm_member.specs.declared.row.Row.{Row}
use Rattle.srm_member.specs.Record.{Record, MemberState, fixed_part, exit_of}
use Rattle.srm_cell.specs.declared.cell.Cell.{Cell}
use Rattle.srm_cell.specs.declared.pending_event.Next.{Next}
use Rattle.srm_cell.specs.declared.fault.CellFault.{CellFault}
use Rattle.srm_cell.specs.declared.fault.CellFault.TheVariants as fault
use Rattle.srm_cell.specs.Cells.{PlainCell, OwnCell, Event, StepOutcome, Idle, Full, Spent, Done, Stepped}
use Rattle.srm_cell.specs.Cells.{next_event}
use Rattle.srm_cell.specs.Cells.{own_step, time_of, known_of}
use Rattle.srm_cell.specs.Flights.{arriving_before}
use Rattle.srm_cell.specs.Pending.{IsNext}

-- what a member ends with that is there
abbrev pub EndsWith : Option MemberState → Exit → Type 0
EndsWith (Some m) x = x ≡ exit_of m
EndsWith None x = ⊥

-- a member that is there
abbrev pub IsHere : Option MemberState → Type 0
IsHere (Some m) = Unit {0}
IsHere None = ⊥

-- there is an event, and a member to answer it: only then may memory be wanted
abbrev pub HasWork : {A : Type 0} → StepOutcome A → Type 0
HasWork Idle = ⊥
HasWork Spent = ⊥
HasWork Full = Unit {0}
HasWork (Done d) = Unit {0}

-- what is known of the member in a box, where f is what is seen of it; where there is no box, the member is gone
abbrev pub known_in : {B : Type 0} → (B → Record) → Option B → Option MemberState
known_in f None = None
known_in f (Some b) = known_of (f b)

-- what a cell keeps of what its member ended with as it left
abbrev pub exit_in : Option (Box Exit) → Option Exit
exit_in None = None
exit_in (Some b) = Some b.value

-- what the end of a member tells that left no exit: what it ends with, unless it is gone
abbrev pub TellsMember : Option MemberState → Result Exit CellFault → Type 0
TellsMember o (Ok x) = EndsWith o x
TellsMember o (Err fault.NoMemory) = IsHere o
TellsMember o (Err fault.Spent) = o ≡ None
TellsMember o (Err fault.CountFull) = ⊥

-- what a cell's end tells: what the member ended with as it left, or else what it ends with now
abbrev pub TellsExit : PlainCell → Result Exit CellFault → Type 0
TellsExit p (Ok x) = (p.exit ≡ Some x) ⊎ ((p.exit ≡ None) × TellsMember p.holds (Ok x))
TellsExit p (Err e) = (p.exit ≡ None) × TellsMember p.holds (Err e)

-- a step with this outcome is refused so. Nothing is known of the cell then
abbrev pub Refuses : {A : Type 0} → StepOutcome A → CellFault → Type 0
Refuses o fault.NoMemory = HasWork o
Refuses o fault.Spent = o ≡ Spent
Refuses o fault.CountFull = o ≡ Full

module _ {M : Type 0} where
  -- the cell as it is seen, where f is what is seen of its box
  abbrev pub plain_cell : (M → Record) → Cell M → PlainCell
  plain_cell f c = record {
    holds = known_in f c.member;
    sent = c.sent;
    inbox = c.inbox;
    script = c.script;
    exit = exit_in c.exit;
  }

  -- and whose it is
  abbrev pub own_cell : (M → Record) → Cell M → OwnCell
  own_cell f c = record { member = c.number; cell = plain_cell f c }

  -- its next event
  abbrev pub event_of : (M → Record) → Cell M → Option Event
  event_of f c = next_event c.number (plain_cell f c)

  -- when that is, and where the cell has it
  abbrev pub IsNextOf : (M → Record) → Cell M → Next → Type 0
  IsNextOf f c next = IsNext c.number (plain_cell f c) next (event_of f c)

  -- its own step to an end
  abbrev pub step_of : (M → Record) → ℕ → Cell M → StepOutcome Stepped
  step_of f till c = own_step till c.number (plain_cell f c)

  -- once the member has left there is no box
  abbrev pub NoneOnceLeft : Cell M → Type 0
  NoneOnceLeft c = (x : Exit) → exit_in c.exit ≡ Some x → c.member ≡ None

  -- a sound cell, where f is what is seen of its box: what it keeps of its next event is so
  pub record IsSoundCell (f : M → Record) (c : Cell M) : Type 0 where
    pub next : IsNextOf f c c.next
    pub none_once_left : NoneOnceLeft c

  -- the cell is sound, and is seen as this one
  pub record IsCell (f : M → Record) (c : Cell M) (q : OwnCell) : Type 0 where
    pub sound : IsSoundCell f c
    pub is : own_cell f c ≡ q

  -- the cell is that of a member with this record, at the beginning, with this script and packet count
  abbrev pub IsNew : (M → Record) → Record → List Mark → ℕ → Cell M → Type 0
  IsNew f r script sent c = IsCell f c (record {
    member = (fixed_part r).member;
    cell = record { holds = known_of r; sent = sent; inbox = []; script = script; exit = None };
  })

  -- a sound cell becomes, by h, another of the same member
  abbrev pub Becomes : (M → Record) → (PlainCell → PlainCell) → Cell M → Cell M → Type 0
  Becomes f h old new = IsSoundCell f old → IsCell f new (record { member = old.number; cell = h (plain_cell f old) })

  -- it goes on as a sound cell of the same member
  abbrev pub GoesOn : (M → Record) → Cell M → Cell M → Type 0
  GoesOn f old new = IsSoundCell f new × (new.number ≡ old.number)

  -- what the own step of a sound cell tells, where there may be nothing to do
  abbrev pub TellsStep : (M → Record) → Cell M → StepOutcome Stepped
      → Result (Option Row) CellFault → Cell M → Type 0
  TellsStep f old o (Ok None) new = (o ≡ Idle) × IsCell f new (own_cell f old)
  TellsStep f old o (Ok (Some row)) new = (o ≡ Done (record { cell = plain_cell f new; row = row })) × GoesOn f old new
  TellsStep f old o (Err e) new = Refuses o e

  -- what the own step to an end tells
  abbrev pub Steps : (M → Record) → ℕ → Cell M → Result (Option Row) CellFault → Cell M → Type 0
  Steps f till old result new = IsSoundCell f old → TellsStep f old (step_of f till old) result new

  -- the least time at which the cell has anything pending
  abbrev pub IsNextTime : (M → Record) → Cell M → Option ℕ → Type 0
  IsNextTime f c time = IsSoundCell f c → time ≡ time_of (event_of f c)

  -- so many packets arrive at the cell's member before a tick, or more than a number of 64 bits tells
  abbrev pub AreArriving : (M → Record) → ℕ → Cell M → ℕ → Type 0
  AreArriving f till c n = n ≡ min (arriving_before till c.inbox) (2 ^ 64 - 1)

  -- what the cell's end tells
  abbrev pub Ends : (M → Record) → Cell M → Result Exit CellFault → Type 0
  Ends f c result = TellsExit (plain_cell f c) result
