-- Steps that wait while a tree grows.
use Rattle.std.specs.Prelude.{◌≡◌, ◌⊎◌, ℕ, ◌+◌, ◌-◌, ◌*◌, ◌<◌, ◌≤◌, Bool, true, false, List, [], ◌∷◌, All, Some, length}
use Rattle.std.specs.Prelude.{map, reverse, slice_get}
use Rattle.srm_net.specs.declared.link.LinkSpec.{LinkSpec}
use Rattle.srm_net.specs.declared.attaching.Attaching.{Attaching}
use Rattle.srm_net.specs.Network.{Joins, IsWithin}
use Rattle.srm_net.specs.Paths.{is_in}
use Rattle.srm_net.specs.Growth.{attached, Grows, IsAbove, IsInPreorder, newest}
use Rattle.srm_net.specs.Known.{is_known}

-- the nodes to which steps lead
abbrev pub targets : List Attaching → List ℕ
targets ss = map (λ s. s.node) ss

-- the step leads over its link from an attached node
pub record LeadsFrom (links : List LinkSpec) (ss : List Attaching) (s : Attaching) : Type 0 where
  pub spec : LinkSpec
  pub link : slice_get links s.link ≡ Some spec
  pub joins : Joins spec s.parent s.node
  pub parent : is_in (attached ss) s.parent ≡ true

-- steps wait, the next of them standing first: each leads from a node that is above x, and each later one from a node
-- that is above that of the one before
abbrev pub Wait : List LinkSpec → List Attaching → ℕ → List Attaching → Type 0
Wait links ss x [] = Unit {0}
Wait links ss x (s ∷ rest) = LeadsFrom links ss s × IsAbove ss s.parent x × Wait links ss s.parent rest

-- a step to each neighbour of a node that is not known was added to those that wait
pub record AddsSteps (links : List LinkSpec) (known : List Bool) (node : ℕ) (old new : List Attaching) : Type 0 where
  pub few : length new ≤ length old + length links
  pub kept : (x : ℕ) → is_in (targets old) x ≡ true → is_in (targets new) x ≡ true
  pub each : (l : ℕ) (k : LinkSpec) (x : ℕ) → slice_get links l ≡ Some k → Joins k node x → is_known known x ≡ false
      → is_in (targets new) x ≡ true
  pub wait : (ss : List Attaching) → is_in (attached ss) node ≡ true → Wait links ss node (reverse old)
      → Wait links ss node (reverse new)

-- a tree grows to its nodes, the steps that attached them standing the newest first: these are known, no step of its
-- preorder is out of turn, and to each other neighbour of theirs a step waits, the next at the end
pub record IsGrowing (nodes : ℕ) (links : List LinkSpec) (known : List Bool) (ss pending : List Attaching) : Type 0
  where
    pub some : 1 ≤ nodes
    pub ends : All (IsWithin nodes) links
    pub long : length known ≡ nodes
    pub marks : (x : ℕ) → x < nodes → is_known known x ≡ is_in (attached ss) x
    pub grown : Grows links ss
    pub ordered : IsInPreorder ss
    pub waits : Wait links ss (newest ss) (reverse pending)
    pub covers : (l : ℕ) (k : LinkSpec) (u x : ℕ) → slice_get links l ≡ Some k → Joins k u x
        → is_in (attached ss) u ≡ true → (is_in (attached ss) x ≡ true) ⊎ (is_in (targets pending) x ≡ true)

-- at most so many steps are yet to be taken: one over each link to each node that is not attached, and those that wait
abbrev pub steps_left : ℕ → List LinkSpec → List Attaching → List Attaching → ℕ
steps_left nodes links steps pending = (nodes - length steps) * (length links + 1) + length pending
