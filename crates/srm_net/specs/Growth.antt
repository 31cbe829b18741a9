-- A tree grown from node 0 by attaching one node after the other.
use Rattle.std.specs.Prelude.{◌≡◌, ℕ, ◌+◌, ◌<◌, ◌≤◌, Bool, true, false, cond, List, [], ◌∷◌, Some, length, map}
use Rattle.std.specs.Prelude.{reverse, slice_get, slice_index_or, ◌==◌}
use Rattle.srm_net.specs.declared.link.LinkSpec.{LinkSpec}
use Rattle.srm_net.specs.declared.attaching.Attaching.{Attaching}
use Rattle.srm_net.specs.Network.{Joins}
use Rattle.srm_net.specs.Paths.{is_in}

-- the step attaches a node that is not among these, by its link, to one that is
pub record Attaches (links : List LinkSpec) (nodes : List ℕ) (s : Attaching) : Type 0 where
  pub spec : LinkSpec
  pub link : slice_get links s.link ≡ Some spec
  pub joins : Joins spec s.parent s.node
  pub parent : is_in nodes s.parent ≡ true
  pub node : is_in nodes s.node ≡ false

-- node 0, and before it the nodes that these steps attach, the newest step standing first
abbrev pub attached : List Attaching → List ℕ
attached [] = 0 ∷ []
attached (s ∷ ss) = s.node ∷ attached ss

-- the links of the steps
abbrev pub used : List Attaching → List ℕ
used ss = map (λ s. s.link) ss

-- each step attaches a node to those of the earlier steps
abbrev pub Grows : List LinkSpec → List Attaching → Type 0
Grows links [] = Unit {0}
Grows links (s ∷ ss) = Attaches links (attached ss) s × Grows links ss

-- whether node x is beyond link l, as seen from node 0
abbrev pub beyond : List Attaching → ℕ → ℕ → Bool
beyond [] l x = false
beyond (s ∷ ss) l x = cond (s.node == x) (cond (s.link == l) true (beyond ss l s.parent)) (beyond ss l x)

-- node u is node x or above it: each link beyond which it is, from node 0, has x beyond it too
abbrev pub IsAbove : List Attaching → ℕ → ℕ → Type 0
IsAbove ss u x = (l : ℕ) → beyond ss l u ≡ true → beyond ss l x ≡ true

-- the node that was attached last
abbrev pub newest : List Attaching → ℕ
newest [] = 0
newest (s ∷ ss) = s.node

-- each step attaches a node to the one that was attached before it, or to one that is above that
abbrev pub IsInPreorder : List Attaching → Type 0
IsInPreorder [] = Unit {0}
IsInPreorder (s ∷ ss) = IsAbove ss s.parent (newest ss) × IsInPreorder ss

-- the place of a node among those attached, the root the first
abbrev pub place_in : List Attaching → ℕ → ℕ
place_in [] v = 0
place_in (s ∷ ss) v = cond (s.node == v) (length ss + 1) (place_in ss v)

-- the nodes beyond the link of step s, as seen from node 0, have the places from its node's up to below this end
pub record IsSpan (ss : List Attaching) (s : Attaching) (end : ℕ) : Type 0 where
  pub own : place_in ss s.node < end
  pub within : (x : ℕ) → is_in (attached ss) x ≡ true → beyond ss s.link x ≡ true
      → (place_in ss s.node ≤ place_in ss x) × (place_in ss x < end)
  pub whole : (x : ℕ) → is_in (attached ss) x ≡ true → place_in ss s.node ≤ place_in ss x → place_in ss x < end
      → beyond ss s.link x ≡ true

-- at the node of each of these steps, the oldest standing first, its end is told. It doesn't pass the one of the node
-- above it, and that of node 0 comes after all places
pub record TellsEnds (steps : List Attaching) (ends : List ℕ) : Type 0 where
  pub spans : (i : ℕ) (s : Attaching) → slice_get steps i ≡ Some s
      → IsSpan (reverse steps) s (slice_index_or ends s.node 0)
  pub nested : (i : ℕ) (s : Attaching) → slice_get steps i ≡ Some s
      → slice_index_or ends s.node 0 ≤ slice_index_or ends s.parent 0
  pub root : (x : ℕ) → is_in (attached (reverse steps)) x ≡ true
      → place_in (reverse steps) x < slice_index_or ends 0 0
