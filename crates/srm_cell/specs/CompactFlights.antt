-- The flights that a line keeps in less room.
use Rattle.std.specs.Prelude.{ℕ, ◌≤◌, ◌<◌, ◌+◌, ◌^◌, Some, None}
use Rattle.srm_net.specs.declared.packet.Body.{Body}
use Rattle.srm_net.specs.declared.packet.Body.TheVariants as body
use Rattle.srm_net.specs.declared.packet.Packet.{Packet}
use Rattle.srm_cell.specs.declared.flight.Flight.{Flight}
use Rattle.srm_cell.specs.declared.compact_body.CompactBody.{CompactBody}
use Rattle.srm_cell.specs.declared.compact_body.CompactBody.TheVariants.{Drawop, Request, Repair, LocalRepair}
use Rattle.srm_cell.specs.declared.compact_body.CompactBody.TheVariants.{Session}
use Rattle.srm_cell.specs.declared.compact_flight.CompactFlight.TheInside.{Inside}

-- the member that sent the packet
abbrev pub sender_of : CompactBody → ℕ
sender_of (Drawop sender name ink) = sender
sender_of (Request sender name scope) = sender
sender_of (Repair sender name ink) = sender
sender_of (LocalRepair sender repair) = sender
sender_of (Session sender heard) = sender

-- what the packet carries
abbrev pub body_of : CompactBody → Body
body_of (Drawop sender name ink) = body.Drawop name ink
body_of (Request sender name scope) = body.Request name scope
body_of (Repair sender name ink) = body.Repair name ink None
body_of (LocalRepair sender repair) = body.Repair repair.value.name repair.value.ink (Some repair.value.local)
body_of (Session sender heard) = body.Session heard.value

-- the flight that is kept so
abbrev pub kept_flight : Inside → Flight
kept_flight f = record {
  arrival = f.sent + f.travel;
  packet = record { id = record { sender = sender_of f.body; count = f.count }; sent = f.sent; body = body_of f.body };
}

-- a packet that arrives at this time has a short flight: it takes below 2^32 ticks, and the packet is one of its
-- sender's first 2^32
abbrev pub IsShort : Packet → ℕ → Type 0
IsShort p at = (p.sent ≤ at) × (at < p.sent + 2 ^ 32) × (p.id.count < 2 ^ 32)

-- the body is a session message's, or a repair's with a scope
abbrev pub WantsBox : Body → Type 0
WantsBox (body.Drawop name ink) = ⊥
WantsBox (body.Request name scope) = ⊥
WantsBox (body.Repair name ink None) = ⊥
WantsBox (body.Repair name ink (Some local)) = Unit {0}
WantsBox (body.Session heard) = Unit {0}
