-- What the parts of a step tell, whatever the cell keeps as its next event.
use Rattle.std.specs.Prelude.{◌≡◌, ◌<◌, ◌≤◌, ◌+◌, ◌⊎◌, ℕ, [], Option, Some, None, Result, Ok, Err}
use Rattle.srm_net.specs.declared.key.Key.{Key}
use Rattle.srm_net.specs.declared.packet.Body.{Body}
use Rattle.srm_net.specs.declared.packet.Packet.{Packet}
use Rattle.srm_net.specs.Limits.{most_sent}
use Rattle.srm_member.specs.declared.cause.Cause.{Cause}
use Rattle.srm_member.specs.declared.react.React.{React}
use Rattle.srm_member.specs.declared.row.Row.{Row}
use Rattle.srm_member.specs.declared.told.Told.{Told}
use Rattle.srm_member.specs.Reacts.{Reacts}
use Rattle.srm_member.specs.Record.{Record}
use Rattle.srm_cell.specs.declared.cell.Cell.{Cell}
use Rattle.srm_cell.specs.declared.fault.CellFault.{CellFault}
use Rattle.srm_cell.specs.declared.fault.CellFault.TheVariants as fault
use Rattle.srm_cell.specs.declared.pending_event.Next.{Next}
use Rattle.srm_cell.specs.declared.pending_event.PendingEvent.{PendingEvent}
use Rattle.srm_cell.specs.Cells.{PlainCell, Event, StepOutcome, Done, Stepped, handle}
use Rattle.srm_cell.specs.Pending.{Stands, IsNext}
use Rattle.srm_cell.specs.Views.{plain_cell, known_in, NoneOnceLeft, Refuses}

-- of an answer's body at an event with this key, and of the member's packet count: the packet, if there is a body, and
-- the count after it. There is none where the count is used up
abbrev pub Packs : Key → Option Body → ℕ → Result (Option Packet) CellFault → ℕ → Type 0
Packs key None n (Ok p) m = (p ≡ None) × (m ≡ n)
Packs key None n (Err e) m = ⊥
Packs key (Some body) n (Ok p) m = (n < most_sent) × (m ≡ n + 1)
    × (p ≡ Some (record { id = record { sender = key.member; count = n }; sent = key.time; body = body }))
Packs key (Some body) n (Err e) m = (most_sent ≤ n) × (e ≡ fault.CountFull)

-- a row that tells no more than this of what came of its event
abbrev pub IsQuiet : Told → Row → Type 0
IsQuiet told row = (row.told ≡ told) × (row.lost ≡ []) × (row.sent ≡ None) × (row.adapted ≡ None)

module _ {M : Type 0} where
  -- this stands for the event that is meant
  abbrev pub StandsFor : (M → Record) → (ℕ → PlainCell → Option Event)
      → Cell M → Option PendingEvent → Type 0
  StandsFor f event c o = Stands c.number (plain_cell f c) o (event c.number (plain_cell f c))

  -- the member of the second is that of the first, and has no box once it has left, if so before
  pub record StaysOne (old new : Cell M) : Type 0 where
    pub number : new.number ≡ old.number
    pub left : NoneOnceLeft old → NoneOnceLeft new

  -- the event with this key and cause, without which this is the cell
  abbrev pub taken_event : (M → Record) → Key → Option Cause → Cell M → Event
  taken_event f key cause c = record { key = key; cause = cause; rest = plain_cell f c }

  -- what the cell's member makes of it
  abbrev pub made_of : (M → Record) → Key → Option Cause → Cell M → StepOutcome Stepped
  made_of f key cause c = handle (taken_event f key cause c) (known_in f c.member) cause

  -- what the member's answer to it tells
  abbrev pub AnswersBy : (M → Record) → StepOutcome Stepped → Cell M → Result Row CellFault → Cell M → Type 0
  AnswersBy f o old (Ok row) new = (o ≡ Done (record { cell = plain_cell f new; row = row })) × StaysOne old new
  AnswersBy f o old (Err e) new = Refuses o e

  abbrev pub AnswersEvent : (M → Record) → Key → Option Cause
      → Cell M → Result Row CellFault → Cell M → Type 0
  AnswersEvent f key cause old result new = AnswersBy f (made_of f key cause old) old result new

  -- there is such a next event, which is taken out of the cell and answered so; or there is none
  abbrev pub AnswersNext : (M → Record) → Next → Cell M → Result (Option Row) CellFault → Cell M → Type 0
  AnswersNext f next old (Ok None) new = (e : Event) → IsNext old.number (plain_cell f old) next (Some e) → ⊥
  AnswersNext f next old (Ok (Some row)) new = (e : Event) → IsNext old.number (plain_cell f old) next (Some e)
      → AnswersBy f (handle e e.rest.holds e.cause) old (Ok row) new
  AnswersNext f next old (Err fault) new = (e : Event) → IsNext old.number (plain_cell f old) next (Some e)
      → AnswersBy f (handle e e.rest.holds e.cause) old (Err fault) new

  -- the cell's member, before and after it answered a cause so
  pub record Answered (f : M → Record) (key : Key) (cause : Cause) (a : React) (old new : Cell M) : Type 0 where
    pub before : M
    pub after : M
    pub was : Some before ≡ old.member
    pub is : new ≡ record old { member = Some after }
    pub reacts : Reacts (f before) key.time cause (Ok a) (f after)

  -- the member answers the cause of an event with this key; or why it has no answer
  abbrev pub HasAnswer : (M → Record) → Key → Cause → Cell M → Result React CellFault → Cell M → Type 0
  HasAnswer f key cause old (Ok a) new = Answered f key cause a old new
  HasAnswer f key cause old (Err e) new = Refuses (made_of f key (Some cause) old) e

  -- the row becomes that of the whole answer, of which it tells the word alone; or why it does not
  abbrev pub Completes : Row → React → Cell M → Result Row CellFault → Cell M → Type 0
  Completes row a old (Ok r) new = (p : Option Packet) × Packs row.key a.body old.sent (Ok p) new.sent
      × (r ≡ record row { lost = a.lost; sent = p; adapted = a.adapted }) × (new ≡ record old { sent = new.sent })
  Completes row a old (Err e) new = (e ≡ fault.NoMemory) ⊎ Packs row.key a.body old.sent (Err e) new.sent
