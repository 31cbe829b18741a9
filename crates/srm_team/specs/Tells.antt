-- What a team is, and what its orders and answers tell.
use Rattle.std.specs.Prelude.{ℕ, ◌≡◌, ◌+◌, List, length, Option, Some, slice_get, Result, Ok, Err}
use Rattle.srm_team.specs.declared.batch.Batch.{Batch}
use Rattle.srm_team.specs.declared.fault.TeamFault.{TeamFault}
use Rattle.srm_team.specs.declared.fault.TeamFault.TheVariants.{NoMemory, TooMany, Worn, Left}

-- a team as it is seen
pub record TeamView : Type 0 where
  -- how many items a list may have
  pub room : ℕ
  -- how many lists it took up
  pub lists : ℕ

-- how many lists a team took up, after this answer: one more, unless it refused the list as it came
abbrev pub lists_after : {A : Type 0} → Result A TeamFault → ℕ → ℕ
lists_after (Ok v) n = n + 1
lists_after (Err NoMemory) n = n + 1
lists_after (Err TooMany) n = n
lists_after (Err Worn) n = n
lists_after (Err Left) n = n + 1

-- it is a fault of a list that was taken up
abbrev pub IsMidway : TeamFault → Type 0
IsMidway NoMemory = Unit {0}
IsMidway TooMany = ⊥
IsMidway Worn = ⊥
IsMidway Left = Unit {0}

module _ {W T : Type 0} where
  -- list n of the history asks for the work w on the item x, at its place p
  abbrev pub Asks : List (Batch W T) → ℕ → ℕ → W → T → Type 0
  Asks log n p w x = (b : Batch W T) → slice_get log n ≡ Some b → (b.work ≡ w) × (slice_get b.items.items p ≡ Some x)

  -- d is what may come of the work that list n asks for at its place p
  abbrev pub Answers : {D : Type 0} → (W → T → D → Type 0) → List (Batch W T) → ℕ → ℕ → D → Type 0
  Answers post log n p d = (b : Batch W T) (x : T) → slice_get log n ≡ Some b → slice_get b.items.items p ≡ Some x
      → post b.work x d

-- there is a slot for each item, and what stands in one is what may come of its item
abbrev pub Filled : {T D : Type 0} → (T → D → Type 0) → List T → List (Option D) → Type 0
Filled {T} {D} post items slots = (length slots ≡ length items)
    × ((p : ℕ) (d : D) → slice_get slots p ≡ Some (Some d) → (x : T) × (slice_get items p ≡ Some x) × post x d)

-- every slot is empty
abbrev pub AllNone : {D : Type 0} → List (Option D) → Type 0
AllNone {D} slots = (p : ℕ) (d : D) → slice_get slots p ≡ Some (Some d) → ⊥
