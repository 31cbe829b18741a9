-- The packets that are counted.
use Rattle.std.specs.Prelude.{◌≡◌, ℕ, ◌+◌, ◌<◌, ◌^◌, List, [], ◌∷◌, ◌++◌, Option, Some, None, length}
use Rattle.srm_net.specs.declared.packet.Packet.{Packet}
use Rattle.srm_cell.specs.Cells.{PlainCell}
use Rattle.srm_model.specs.Hearing.{IsUnheard}
use Rattle.srm_net.specs.Limits.{end_of_time}

-- the packets, with the one that was sent, if any was
abbrev pub and_sent : Option Packet → List Packet → List Packet
and_sent None ps = ps
and_sent (Some p) ps = ps ++ p ∷ []

-- the packet that is to be sent, if any is: its sender is one of the members, its time is in range, no cell hears it
-- yet, and the packets so far are few enough to be counted
abbrev pub MaySend : ℕ → List PlainCell → List Packet → Option Packet → Type 0
MaySend members cs ps None = Unit {0}
MaySend members cs ps (Some p) =
    (length cs ≡ members) × (length ps + 3 < 2 ^ 64) × (p.id.sender < members) × (p.sent < end_of_time)
    × IsUnheard p.id cs
