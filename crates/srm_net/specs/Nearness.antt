-- The nearest members of each node.
use Rattle.std.specs.Prelude.{◌≡◌, ◌≢◌, ◌⊎◌, ℕ, ◌+◌, ◌-◌, ◌^◌, ◌<◌, ◌≤◌}
use Rattle.std.specs.Prelude.{min, nat_lt, List, Option, Some, None, length, slice_index_or, if◌then◌else◌}
use Rattle.srm_net.specs.declared.near.Near.{Near}
use Rattle.srm_net.specs.declared.nearest.Nearest.{Nearest}
use Rattle.srm_net.specs.declared.nearest.Nearest.TheVariants.{Nobody, One, Two}
use Rattle.srm_net.specs.declared.position.Position.{Position}
use Rattle.srm_net.specs.Network.{Network, IsNetwork}
use Rattle.srm_net.specs.Paths.{host}
use Rattle.srm_net.specs.Rooting.{takes, at, IsRooted, IsHeld}

-- a member as it is seen from so many ticks away
abbrev pub later : Near → ℕ → Near
later n delay = record { member = n.member; ticks = min (n.ticks + delay) (2 ^ 64 - 1) }

-- the first, unless the second is nearer
abbrev pub nearer : Near → Near → Near
nearer a b = if nat_lt b.ticks a.ticks then b else a

-- so many ticks takes the second of the nearest, if there are two
abbrev pub second_ticks : Nearest → Option ℕ
second_ticks Nobody = None
second_ticks (One a) = None
second_ticks (Two a b) = Some b.ticks

-- this is one of the nearest
abbrev pub IsOneOf : Nearest → Near → Type 0
IsOneOf Nobody n = ⊥
IsOneOf (One a) n = n ≡ a
IsOneOf (Two a b) n = (n ≡ a) ⊎ (n ≡ b)

-- the second is another member than the first, and no nearer
abbrev pub IsNearestFirst : Nearest → Type 0
IsNearestFirst Nobody = Unit {0}
IsNearestFirst (One a) = Unit {0}
IsNearestFirst (Two a b) = (a.member ≢ b.member) × (a.ticks ≤ b.ticks)

-- the nearest are so near that they may leave out member m at so many ticks: it is the first of them, and no further,
-- or both are no further
abbrev pub Covers : Nearest → ℕ → ℕ → Type 0
Covers Nobody m ticks = ⊥
Covers (One a) m ticks = (a.member ≡ m) × (a.ticks ≤ ticks)
Covers (Two a b) m ticks = ((a.member ≡ m) × (a.ticks ≤ ticks)) ⊎ (b.ticks ≤ ticks)

-- one member more is taken into account
pub record Offers (old : Nearest) (n : Near) (new : Nearest) : Type 0 where
  pub ordered : IsNearestFirst old → IsNearestFirst new
  pub covers : Covers new n.member n.ticks
  pub keeps : IsNearestFirst old → (m ticks : ℕ) → Covers old m ticks → Covers new m ticks
  pub from : (k : Near) → IsOneOf new k → IsOneOf old k ⊎ (k ≡ n)

-- others are taken into account that are seen from so many ticks away
pub record Takes (old others : Nearest) (delay : ℕ) (new : Nearest) : Type 0 where
  pub ordered : IsNearestFirst old → IsNearestFirst new
  pub keeps : IsNearestFirst old → (m ticks : ℕ) → Covers old m ticks → Covers new m ticks
  pub brings : IsNearestFirst old → IsNearestFirst others → (m ticks : ℕ) → Covers others m ticks
      → Covers new m (ticks + delay)
  pub from : (k : Near) → IsOneOf new k → IsOneOf old k ⊎ ((n : Near) × IsOneOf others n × (k ≡ later n delay))

-- the nearest members of node u
abbrev pub nearest_of : List Nearest → ℕ → Nearest
nearest_of table u = slice_index_or table u Nobody

-- for each node, ordered members to which a packet from there takes no longer than told
pub record IsSound (w : Network) (table : List Nearest) : Type 0 where
  pub long : length table ≡ w.nodes
  pub ordered : (u : ℕ) → u < w.nodes → IsNearestFirst (nearest_of table u)
  pub member : (u : ℕ) (n : Near) → u < w.nodes → IsOneOf (nearest_of table u) n → n.member < length w.hosts
  pub ticks : (u : ℕ) (n : Near) → u < w.nodes → IsOneOf (nearest_of table u) n → takes w u (host w n.member) ≤ n.ticks

-- each member is taken into account at its own node
abbrev pub TellsOwn : Network → List Nearest → Type 0
TellsOwn w table = (m : ℕ) → m < length w.hosts → Covers (nearest_of table (host w m)) m 0

-- at each node those on it or below it are
abbrev pub TellsBelow : Network → List Position → List Nearest → Type 0
TellsBelow w positions table =
    (u m : ℕ) → u < w.nodes → m < length w.hosts → IsHeld (at positions u) (at positions (host w m))
    → Covers (nearest_of table u) m (takes w u (host w m))

-- at each node all are
abbrev pub TellsNearest : Network → List Nearest → Type 0
TellsNearest w table =
    (u m : ℕ) → u < w.nodes → m < length w.hosts → Covers (nearest_of table u) m (takes w u (host w m))

-- ---- node after node

-- the positions of a network's nodes are told, and node u is one of them, but not the root
pub record IsBelowRoot (w : Network) (positions : List Position) (u : ℕ) : Type 0 where
  pub network : IsNetwork w
  pub rooted : IsRooted w positions
  pub node : u < w.nodes
  pub place : 1 ≤ (at positions u).place

-- each member is taken into account at its own node, and those on or below each node from place i on are at its parent
pub record TellsUpTo (w : Network) (positions : List Position) (i : ℕ) (table : List Nearest) : Type 0 where
  pub sound : IsSound w table
  pub own : TellsOwn w table
  pub below : (u m : ℕ) → u < w.nodes → m < length w.hosts → i ≤ (at positions u).place → 1 ≤ (at positions u).place
      → IsHeld (at positions u) (at positions (host w m))
      → Covers (nearest_of table (at positions u).parent) m (takes w (at positions u).parent (host w m))

-- at each node the members on it or below it are taken into account, and at those before place i all are
pub record TellsDownTo (w : Network) (positions : List Position) (i : ℕ) (table : List Nearest) : Type 0 where
  pub sound : IsSound w table
  pub below : TellsBelow w positions table
  pub all : (u m : ℕ) → u < w.nodes → m < length w.hosts → (at positions u).place < i
      → Covers (nearest_of table u) m (takes w u (host w m))
