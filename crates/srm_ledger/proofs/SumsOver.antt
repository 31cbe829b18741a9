-- Sums over a list of seats, or of passes.
use Rattle.std.proofs.Common.{◌≡◌, ℕ, zero, suc, ◌+◌, ◌*◌, ◌≤◌, List, [], ◌∷◌, ◌++◌, set, sym, refl, ap, arith}
use mathlib.Core.Option.{some, some-injective, some-ne-none}
use lib.ListN.{get_elem?}
use Rattle.srm_ledger.specs.Weights.{total, first_weight, second_weight, joined_weight}

module _ {V : Type 0} (f : V → ℕ) where
  pub total_set : (l : List V) (i : ℕ) (v w : V) → get_elem? l i ≡ some v → total f (set l i w) + f v ≡ total f l + f w
  total_set [] i v w e = absurd (some-ne-none v (sym e))
  total_set (x ∷ xs) zero v w e = let is : f x ≡ f v = ap f (some-injective x v e) in omega arith
  total_set (x ∷ xs) (suc i) v w e = let r = total_set xs i v w e in omega arith

  pub total_snoc : (l : List V) (v : V) → total f (l ++ v ∷ []) ≡ total f l + f v
  total_snoc [] v = omega arith
  total_snoc (x ∷ xs) v = let r = total_snoc xs v in omega arith

  -- nothing is lost or made where one is split into two
  pub total_split : (l : List V) (i : ℕ) (v a b : V) → get_elem? l i ≡ some v → f a + f b ≡ f v
      → total f (set l i a ++ b ∷ []) ≡ total f l
  total_split l i v a b at same = let x = total_set l i v a at in let y = total_snoc (set l i a) b in omega arith

  -- nor where two are joined in the place of one, and another stands in the place of the other
  pub total_join : (l : List V) (i j : ℕ) (v w a b : V) → get_elem? l i ≡ some v → get_elem? (set l i a) j ≡ some w
      → f a + f b ≡ f v + f w → total f (set (set l i a) j b) ≡ total f l
  total_join l i j v w a b at at' same =
      let x = total_set l i v a at in let y = total_set (set l i a) j w b at' in omega arith

  pub total_part : (l : List V) (j : ℕ) (v : V) → get_elem? l j ≡ some v → f v ≤ total f l
  total_part [] j v e = absurd (some-ne-none v (sym e))
  total_part (x ∷ xs) zero v e = let is : f x ≡ f v = ap f (some-injective x v e) in omega arith
  total_part (x ∷ xs) (suc j) v e = let r = total_part xs j v e in omega arith

  pub total_none : (l : List V) → ((j : ℕ) (v : V) → get_elem? l j ≡ some v → f v ≡ 0) → total f l ≡ 0
  total_none [] h = refl
  total_none (x ∷ xs) h = let a = h 0 x refl in let r = total_none xs (λ j v e. h (suc j) v e) in omega arith

-- where each is at most c times its weight, the sum is
pub total_most : {V : Type 0} (f g : V → ℕ) (l : List V) (c : ℕ) → ((j : ℕ) (v : V) → get_elem? l j ≡ some v → f v ≤ g v * c)
    → total f l ≤ total g l * c
total_most f g [] c h = omega arith
total_most f g (x ∷ xs) c h = let a = h 0 x refl in let r = total_most f g xs c (λ j v e. h (suc j) v e) in
    let d : (g x + total g xs) * c ≡ g x * c + total g xs * c = omega arith in omega arith

-- the two halves weigh what the one did
pub halves_joined : (w : ℕ) → joined_weight (first_weight w) (second_weight w) ≡ w
halves_joined w = omega arith
