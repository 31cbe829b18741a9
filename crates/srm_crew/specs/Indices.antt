-- The rule of the bag: each put item's index stands exactly once, in the queue with the item or in one pass's list.
use Rattle.std.specs.Prelude.{◌≡◌, ℕ, ◌+◌, ◌<◌, ◌≤◌, List, [], ◌∷◌, ◌++◌, length, cond, ◌==◌, slice_index}
use Rattle.std.specs.Prelude.{slice_get, Some}
use mathlib.Core.Option.{some}
use lib.ListN.{get_elem?}
use Rattle.srm_ledger.specs.Weights.{total, whole_weight, WeighWhole, first_weight, second_weight, joined_weight}
use Rattle.srm_crew.specs.declared.rule.Hold.{Hold}
use Rattle.srm_crew.specs.declared.rule.Spot.{Spot}

module _ {T : Type 0} where
  abbrev pub hold_of : ℕ → List T → List ℕ → Hold T
  hold_of w put taken = record { weight = w; put = put; taken = taken }

  -- a pass that was joined to another
  abbrev pub spent_hold : Hold T
  spent_hold = hold_of 0 [] []

  abbrev pub first_whole : Hold T
  first_whole = hold_of whole_weight [] []

-- how often p stands in the list
abbrev pub times : ℕ → List ℕ → ℕ
times p [] = 0
times p (q ∷ qs) = cond (p == q) 1 0 + times p qs

-- each number below n stands once, and no others
abbrev pub EachOnce : List ℕ → ℕ → Type 0
EachOnce ps n = ((p : ℕ) → p < n → times p ps ≡ 1) × ((p : ℕ) → n ≤ p → times p ps ≡ 0)

-- no number stands twice, and none from n on
abbrev pub EachAtMostOnce : List ℕ → ℕ → Type 0
EachAtMostOnce ps n = ((p : ℕ) → times p ps ≤ 1) × ((p : ℕ) → n ≤ p → times p ps ≡ 0)

abbrev pub AllBelow : List ℕ → ℕ → Type 0
AllBelow ps n = (k : ℕ) → k < length ps → slice_index ps k < n

module _ {T : Type 0} where
  abbrev pub hold_weight : Hold T → ℕ
  hold_weight v = v.weight

  abbrev pub count_of : Hold T → ℕ
  count_of v = length v.taken

  abbrev pub times_of : ℕ → Hold T → ℕ
  times_of p v = times p v.taken

-- what is so of a pass: joined away it has nothing; else it knows what was put. Its indices are below the oldest in the
-- queue
pub record PassOk {T : Type 0} (put : List T) (popped : ℕ) (v : Hold T) : Type 0 where
  pub spent_is : v.weight ≡ 0 → v ≡ spent_hold
  pub knows : 1 ≤ v.weight → v.put ≡ put
  pub below : AllBelow v.taken popped

-- the indices below popped stand in the lists, each once; the queue has the others, in rising order; the weights are
-- 65536 in all
pub record Kept {T : Type 0} (items : List (Spot T)) (views : List (Hold T)) : Type 0 where
  pub put : List T
  pub popped : ℕ
  pub behind : popped + length items ≡ length put
  pub queued : (k : ℕ) (x : Spot T) → get_elem? items k ≡ some x → (x.index ≡ popped + k)
      × (slice_get put (popped + k) ≡ Some x.item)
  pub whole : WeighWhole hold_weight views
  pub counted : total count_of views ≡ popped
  pub once : (p : ℕ) → p < popped → total (times_of p) views ≡ 1
  pub never : (p : ℕ) → popped ≤ p → total (times_of p) views ≡ 0
  pub passes : (j : ℕ) (v : Hold T) → get_elem? views j ≡ some v → PassOk put popped v

module _ {T : Type 0} where
  -- what a put and a take tell
  abbrev pub puts : Hold T → Spot T → Hold T → Type 0
  puts v x w = w ≡ hold_of v.weight (v.put ++ x.item ∷ []) v.taken

  abbrev pub takes_spot : Hold T → Spot T → Hold T → Type 0
  takes_spot v x w = (w ≡ hold_of v.weight v.put (v.taken ++ x.index ∷ [])) × (slice_get v.put x.index ≡ Some x.item)
      × AllBelow v.taken x.index × (length v.taken < length v.put)
      × EachAtMostOnce (v.taken ++ x.index ∷ []) (length v.put)

module _ {T : Type 0} where
  -- no more is queued than was put
  abbrev pub short : Hold T → List (Spot T) → Type 0
  short v items = length items ≤ length v.put

  -- where the whole pass looks, all that is not queued is in its list
  abbrev pub rests : Hold T → List (Spot T) → Type 0
  rests v items = v.weight ≡ whole_weight → (length v.taken + length items ≡ length v.put)
      × (length items ≡ 0 → EachOnce v.taken (length v.put))

  -- a pass weighs no more than the whole, took no index twice, and took no more of them than items were put
  abbrev pub fits : Hold T → List (Spot T) → Type 0
  fits v items = (v.weight ≤ whole_weight) × (length v.taken ≤ length v.put) × EachAtMostOnce v.taken (length v.put)

module _ {T : Type 0} where
  abbrev pub first_hold : Hold T → Hold T
  first_hold v = hold_of (first_weight v.weight) v.put v.taken

  abbrev pub second_hold : Hold T → Hold T
  second_hold v = hold_of (second_weight v.weight) v.put []

  abbrev pub both_holds : Hold T → Hold T → Hold T
  both_holds v w = hold_of (joined_weight v.weight w.weight) v.put (v.taken ++ w.taken)
