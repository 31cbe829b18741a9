-- Where a cell has its next event.
use Rattle.std.specs.Prelude.{◌≡◌, ℕ, ◌-◌, ◌^◌, Option, Some, None, if◌then◌else◌}
use Rattle.std.specs.Ordering.{is_gt}
use Rattle.srm_net.specs.declared.packet.PacketId.{PacketId}
use Rattle.srm_net.specs.declared.rank.Rank.TheVariants as rank
use Rattle.srm_net.specs.Keys.{key_cmp}
use Rattle.srm_scenario.specs.declared.mark.Mark.{Mark}
use Rattle.srm_member.specs.declared.due.Due.{Due}
use Rattle.srm_cell.specs.declared.pending_event.Source.{Source}
use Rattle.srm_cell.specs.declared.pending_event.Source.TheVariants.{Inbox, Script, Timer, Nowhere}
use Rattle.srm_cell.specs.declared.pending_event.Next.{Next}
use Rattle.srm_cell.specs.declared.pending_event.PendingEvent.{PendingEvent}
use Rattle.srm_cell.specs.Cells.{PlainCell, Event, due_in, first_arrival, first_mark, next_timer}

-- the first event of a source
abbrev pub first_of : Source → ℕ → PlainCell → Option Event
first_of Inbox m c = first_arrival m c c.inbox
first_of Script m c = first_mark m c c.script
first_of Timer m c = next_timer m c (due_in c.holds)
first_of Nowhere m c = None

-- no event is later
abbrev pub never : ℕ
never = 2 ^ 64 - 1

-- when an event is; without one, never
abbrev pub tick_of : Option Event → ℕ
tick_of None = never
tick_of (Some e) = e.key.time

-- no next event
abbrev pub no_next : Next
no_next = record { time = never; source = Nowhere }

-- the cell's next event is this one, if any: it is at that time, and the source has it first
abbrev pub IsNext : ℕ → PlainCell → Next → Option Event → Type 0
IsNext m c n None = n ≡ no_next
IsNext m c n (Some e) = (n.time ≡ e.key.time) × (first_of n.source m c ≡ Some e)

-- what is pending stands for this event, if for any: it has the event's key, and its source has that event first
abbrev pub Stands : ℕ → PlainCell → Option PendingEvent → Option Event → Type 0
Stands m c None o = o ≡ None
Stands m c (Some p) o = (e : Event) × (o ≡ Some e) × (p.key ≡ e.key) × (first_of p.source m c ≡ Some e)

-- a packet on its way to member m, as it is pending
abbrev pub arriving : ℕ → ℕ → PacketId → PendingEvent
arriving m time id = record {
  key = record { time = time; member = m; rank = rank.Arrival; a = id.sender; b = 0; c = id.count };
  source = Inbox;
}

-- a mark of member m's script
abbrev pub marked : ℕ → ℕ → Mark → PendingEvent
marked m time k = record {
  key = record { time = time; member = m; rank = k.rank; a = 0; b = 0; c = k.place };
  source = Script;
}

-- a timer of member m
abbrev pub expiring : ℕ → ℕ → Due → PendingEvent
expiring m time d = record {
  key = record { time = time; member = m; rank = d.rank; a = d.name.source; b = d.name.page; c = d.name.number };
  source = Timer;
}

-- when and where that is which is pending
abbrev pub next_of : Option PendingEvent → Next
next_of None = no_next
next_of (Some p) = record { time = p.key.time; source = p.source }

-- of two that are pending the one with the lesser key; of two with one key the first
abbrev pub sooner_pending : Option PendingEvent → Option PendingEvent → Option PendingEvent
sooner_pending None q = q
sooner_pending (Some p) None = Some p
sooner_pending (Some p) (Some q) = if is_gt (key_cmp p.key q.key) then Some q else Some p
