-- Two lists of numbers put together place by place.
use Rattle.std.proofs.Common.{◌≡◌, ℕ, zero, suc, ◌+◌, ◌<◌, max, drop, List, [], ◌∷◌, length, slice_index, sym, refl, ap, ◌∙◌, arith}
use Rattle.std.proofs.lemmas.Grind.{same_number_lists}
use Rattle.srm_ledger.specs.Tally.{added, larger}

pub added_at : (xs ys : List ℕ) (k : ℕ) → slice_index (added xs ys) k ≡ slice_index xs k + slice_index ys k
added_at [] ys k = omega arith
added_at (x ∷ xs) [] k = omega arith
added_at (x ∷ xs) (y ∷ ys) zero = refl
added_at (x ∷ xs) (y ∷ ys) (suc k) = added_at xs ys k

pub larger_at : (xs ys : List ℕ) (k : ℕ) → slice_index (larger xs ys) k ≡ max (slice_index xs k) (slice_index ys k)
larger_at [] ys k = omega arith
larger_at (x ∷ xs) [] k = omega arith
larger_at (x ∷ xs) (y ∷ ys) zero = refl
larger_at (x ∷ xs) (y ∷ ys) (suc k) = larger_at xs ys k

pub added_length : (xs ys : List ℕ) → length xs ≡ length ys → length (added xs ys) ≡ length xs
added_length [] ys e = sym e
added_length (x ∷ xs) [] e = refl
added_length (x ∷ xs) (y ∷ ys) e = ap suc (added_length xs ys (omega arith))

pub larger_length : (xs ys : List ℕ) → length xs ≡ length ys → length (larger xs ys) ≡ length xs
larger_length [] ys e = sym e
larger_length (x ∷ xs) [] e = refl
larger_length (x ∷ xs) (y ∷ ys) e = ap suc (larger_length xs ys (omega arith))

pub is_added : (zs xs ys : List ℕ) → length xs ≡ length ys → length zs ≡ length xs
    → ((k : ℕ) → k < length xs → slice_index zs k ≡ slice_index xs k + slice_index ys k) → zs ≡ added xs ys
is_added zs xs ys same long h = let l = added_length xs ys same in same_number_lists zs (added xs ys) (long ∙ sym l)
    (λ k lt. h k (omega arith) ∙ sym (added_at xs ys k))

pub is_larger : (zs xs ys : List ℕ) → length xs ≡ length ys → length zs ≡ length xs
    → ((k : ℕ) → k < length xs → slice_index zs k ≡ max (slice_index xs k) (slice_index ys k)) → zs ≡ larger xs ys
is_larger zs xs ys same long h = let l = larger_length xs ys same in same_number_lists zs (larger xs ys) (long ∙ sym l)
    (λ k lt. h k (omega arith) ∙ sym (larger_at xs ys k))

-- a number behind the first
pub behind_at : (xs : List ℕ) (k : ℕ) → slice_index (drop 1 xs) k ≡ slice_index xs (k + 1)
behind_at xs k = grind arith
