-- Flights, and their order.
use Rattle.std.specs.Prelude.{◌≢◌, ℕ, nat_lt, List, [], ◌∷◌}
use Rattle.std.specs.List.{count_by}
use Rattle.std.specs.declared.cmp.Ordering.{Ordering}
use Rattle.std.specs.Ordering.{nat_cmp, flip_args}
use Rattle.std.specs.Cmp.{IsTotalOrder, on_total, back_total}
use Rattle.std.specs.Cmp.Lexicographic.{slice_cmp, nat_list_cmp_total}
use Rattle.srm_net.specs.declared.packet.PacketId.{PacketId}
use Rattle.srm_net.specs.declared.packet.Packet.{Packet}
use Rattle.srm_net.specs.Orders.{place}
use Rattle.srm_cell.specs.declared.flight.Flight.{Flight}

-- flights are compared by arrival, and by their packets' sender and count
abbrev pub flight_cmp : Flight → Flight → Ordering
flight_cmp f g =
    slice_cmp nat_cmp (f.arrival ∷ f.packet.id.sender ∷ f.packet.id.count ∷ [])
    (g.arrival ∷ g.packet.id.sender ∷ g.packet.id.count ∷ [])

pub flight_total : IsTotalOrder flight_cmp
flight_total = on_total (λ (f : Flight). f.arrival ∷ f.packet.id.sender ∷ f.packet.id.count ∷ []) nat_list_cmp_total

-- the same order the other way round
abbrev pub later_cmp : Flight → Flight → Ordering
later_cmp = flip_args flight_cmp

pub later_total : IsTotalOrder later_cmp
later_total = back_total flight_total

-- what the order of flights goes by: when one arrives, and which packet it brings
abbrev pub turn_of : Flight → ℕ × PacketId
turn_of f = (f.arrival, f.packet.id)

-- the same order, of these
abbrev pub place_cmp : (ℕ × PacketId) → (ℕ × PacketId) → Ordering
place_cmp k l = slice_cmp nat_cmp (k.0 ∷ k.1.sender ∷ k.1.count ∷ []) (l.0 ∷ l.1.sender ∷ l.1.count ∷ [])

-- the flights with that of a packet that arrives at this time, in its place among them
abbrev pub with_flight : Packet → ℕ → List Flight → List Flight
with_flight p at fs = place flight_cmp (record { arrival = at; packet = p }) fs

-- none of these flights brings this packet
abbrev pub BringsNone : PacketId → List Flight → Type 0
BringsNone id [] = Unit {0}
BringsNone id (f ∷ fs) = (f.packet.id ≢ id) × BringsNone id fs

-- how many of the flights arrive before a tick
abbrev pub arriving_before : ℕ → List Flight → ℕ
arriving_before till fs = count_by (λ f. nat_lt f.arrival till) fs
