-- Items that are given to a team one after the other.
use Rattle.std.specs.Prelude.{ℕ, ◌≡◌, List, [], ◌∷◌}
use Rattle.std.specs.List.{flat_map}
use Rattle.srm_team.specs.declared.batch.Batch.{Batch}

-- a relay as it is seen
pub record RelayView (W T : Type 0) : Type 0 where
  -- the work on each item
  pub work : W
  -- how many items may be under way
  pub room : ℕ
  -- how many items it took up, each of them a list of its own in the history
  pub lists : ℕ
  -- the items whose results it has not given yet, the oldest first
  pub under_way : List T

module _ {W T : Type 0} where
  -- the items of these lists, one list after the other
  abbrev pub items_of : List (Batch W T) → List T
  items_of bs = flat_map (λ b. b.items.items) bs

  -- the list asks for this work on one item
  abbrev pub IsAsked : W → Batch W T → Type 0
  IsAsked work b = (x : T) × (b.work ≡ work) × (b.items.items ≡ x ∷ [])
