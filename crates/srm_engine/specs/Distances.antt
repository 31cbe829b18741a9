-- How long packets take from one member to each.
use Rattle.std.specs.Prelude.{◌≡◌, ◌≢◌, ℕ, true, List, [], length, map}
use Rattle.std.specs.List.{range_with_len}
use Rattle.srm_net.specs.Network.{Network}
use Rattle.srm_net.specs.Paths.{distance}
use Rattle.srm_net.specs.Spreads.{PlainSpread, is_everywhere}

-- the distances from a member to each in turn, in ticks
abbrev pub distances_from : Network → ℕ → List ℕ
distances_from w a = map (λ b. distance w a b) (range_with_len 0 (length w.hosts))

-- unless there are none, these are the distances from a member
abbrev pub AreDistancesFrom : Network → ℕ → List ℕ → Type 0
AreDistancesFrom w a ds = ds ≢ [] → ds ≡ distances_from w a

-- a packet of this spread comes to every node, and to each member in so many ticks
abbrev pub ComesEverywhereIn : Network → PlainSpread → List ℕ → Type 0
ComesEverywhereIn w s ds = (is_everywhere s ≡ true) × (ds ≡ distances_from w s.sender)
