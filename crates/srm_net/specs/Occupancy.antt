-- Which places of a rooted tree have members.
use Rattle.std.specs.Prelude.{◌≡◌, ℕ, ◌+◌, ◌<◌, ◌≤◌, Bool, true, false, List, length, map, slice_index}
use Rattle.srm_net.specs.declared.occupied.Occupied.{Occupied}
use Rattle.srm_net.specs.declared.position.Position.{Position}
use Rattle.srm_net.specs.Network.{Network, IsNetwork}
use Rattle.srm_net.specs.Paths.{is_in}
use Rattle.srm_net.specs.Rooting.{at, IsRooted}

-- the places of these nodes
abbrev pub places_of : List Position → List ℕ → List ℕ
places_of positions nodes = map (λ u. (at positions u).place) nodes

-- n is the first of the places from place i on, or the end where there is none
pub record IsNextFree (places : List ℕ) (size i n : ℕ) : Type 0 where
  pub later : i ≤ n
  pub most : n ≤ size
  pub free : (p : ℕ) → is_in places p ≡ true → i ≤ p → p < n → ⊥
  pub taken : n < size → is_in places n ≡ true

-- the first of the places is told from each place on, and from the end
pub record TellsNext (places : List ℕ) (size : ℕ) (next : List ℕ) : Type 0 where
  pub long : length next ≡ size + 1
  pub below : (p : ℕ) → is_in places p ≡ true → p < size
  pub each : (i : ℕ) → i ≤ size → IsNextFree places size i (slice_index next i)

-- whether one of the places stands from the first number up to below the second
pub record TellsAny (places : List ℕ) (from to : ℕ) (any : Bool) : Type 0 where
  pub some : any ≡ true → (p : ℕ) × (is_in places p ≡ true) × (from ≤ p) × (p < to)
  pub none : any ≡ false → (p : ℕ) → is_in places p ≡ true → from ≤ p → p < to → ⊥

-- whether one of the places is neither that of the node of a position nor that of one below it
pub record TellsOther (places : List ℕ) (q : Position) (any : Bool) : Type 0 where
  pub some : any ≡ true → (p : ℕ) × (is_in places p ≡ true) × (q.place ≤ p → p < q.end → ⊥)
  pub none : any ≡ false → (p : ℕ) → is_in places p ≡ true → (q.place ≤ p) × (p < q.end)

-- the places of the members of a network are told
pub record IsOccupied (w : Network) (positions : List Position) (o : Occupied) : Type 0 where
  pub network : IsNetwork w
  pub rooted : IsRooted w positions
  pub size : o.size ≡ (at positions 0).end
  pub told : TellsNext (places_of positions w.hosts) o.size o.next.items
