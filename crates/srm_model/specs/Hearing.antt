-- Cells that hear a packet.
use Rattle.std.specs.Prelude.{◌≡◌, ℕ, suc, List, [], ◌∷◌, Option, Some, None, length, slice_get, nat_lt, if◌then◌else◌}
use Rattle.srm_net.specs.declared.packet.Packet.{Packet}
use Rattle.srm_net.specs.declared.packet.PacketId.{PacketId}
use Rattle.srm_cell.specs.Setting.{Traffic}
use Rattle.srm_cell.specs.Flights.{BringsNone}
use Rattle.srm_cell.specs.Cells.{PlainCell, hear}

-- no cell hears this packet yet
abbrev pub IsUnheard : PacketId → List PlainCell → Type 0
IsUnheard id ps = (j : ℕ) (p : PlainCell) → slice_get ps j ≡ Some p → BringsNone id p.inbox

-- the cells of members i and on, of which those below member k have heard the packet
abbrev pub heard_below : Traffic → Packet → ℕ → ℕ → List PlainCell → List PlainCell
heard_below t p k i [] = []
heard_below t p k i (c ∷ cs) = (if nat_lt i k then hear t p i c else c) ∷ heard_below t p k (suc i) cs

-- every cell hears the packet that was sent, if any was
abbrev pub all_hear : Traffic → Option Packet → List PlainCell → List PlainCell
all_hear t None cs = cs
all_hear t (Some p) cs = heard_below t p (length cs) 0 cs
