-- Lists in blocks.
use Rattle.std.specs.Prelude.{◌≡◌, ◌≢◌, List, [], ◌∷◌, ◌++◌, Option, Some, None}
use Rattle.std.specs.Global.{Box, Global}
use Rattle.std.specs.declared.collections.VecDeque as deques

-- a `VecDeque<A>`
abbrev pub Deque : Type 0 → Type 0
Deque A = deques.VecDeque A Global

-- what the blocks hold, one behind the other
abbrev pub in_blocks : {A : Type 0} → List (Deque A) → List A
in_blocks [] = []
in_blocks (b ∷ bs) = b.items ++ in_blocks bs

-- none of the blocks is empty
abbrev pub AreFilled : {A : Type 0} → List (Deque A) → Type 0
AreFilled [] = Unit {0}
AreFilled (b ∷ bs) = (b.items ≢ []) × AreFilled bs

-- the first values, and those in blocks: there are none before others that are none
pub record AreInTurn {A : Type 0} (first : List A) (blocks : List (Deque A)) : Type 0 where
  pub filled : AreFilled blocks
  pub front : first ≡ [] → blocks ≡ []

-- what is in a box, if there is one
abbrev pub in_box : {A : Type 0} → Option (Box (List A)) → List A
in_box None = []
in_box (Some b) = b.value
