-- A line of flights, each before the next, and others that are kept apart from it.
use Rattle.std.specs.Prelude.{◌≡◌, ℕ, ◌≤◌, Bool, true, false, List, [], ◌∷◌, length}
use Rattle.std.specs.List.Sorted.{IsPartitionPoint}
use Rattle.std.specs.Ordering.{is_lt}
use Rattle.srm_net.specs.declared.packet.PacketId.{PacketId}
use Rattle.srm_cell.specs.declared.flight.Flight.{Flight}
use Rattle.srm_cell.specs.Flights.{turn_of, place_cmp}

-- whether another goes before a flight with this arrival and packet
abbrev pub goes_before : (ℕ × PacketId) → Flight → Bool
goes_before k f = is_lt (place_cmp (turn_of f) k)

-- whether a flight with this arrival and packet goes behind the last of a line
abbrev pub follows : (ℕ × PacketId) → List Flight → Bool
follows k [] = true
follows k (f ∷ []) = goes_before k f
follows k (f ∷ g ∷ fs) = follows k (g ∷ fs)

-- the place in a line of a flight with this arrival and packet: those before it are those that go before
abbrev pub IsPlaceIn : (ℕ × PacketId) → List Flight → ℕ → Type 0
IsPlaceIn k fs p = (p ≤ length fs) × IsPartitionPoint (λ f. goes_before k f ≡ true) (λ f. goes_before k f ≡ false) fs p

-- whether the first of a line goes before the first of the others
abbrev pub leads : List Flight → List Flight → Bool
leads [] gs = false
leads (f ∷ fs) [] = true
leads (f ∷ fs) (g ∷ gs) = is_lt (place_cmp (turn_of f) (turn_of g))
