-- Elements of lists by their numbers.
use Rattle.std.proofs.Common.{◌≡◌, ◌≢◌, ℕ, zero, suc, ◌<◌, slice_set, List, [], ◌∷◌, ◌++◌}
use Rattle.std.proofs.Common.{Bool, false, length, Some, refl, ap, ◌∙◌, sym, arith, slice_get, slice_index_or, All}
use Rattle.std.proofs.lemmas.List.{get_or_default}

pub get_below : {A : Type 0} (xs : List A) (i : ℕ) (x : A) → slice_get xs i ≡ Some x → i < length xs
get_below [] i x h = cc
get_below (y ∷ ys) zero x h = omega arith
get_below (y ∷ ys) (suc i) x h = let k = get_below ys i x h in omega arith

pub below_get : {A : Type 0} (xs : List A) (i : ℕ) → i < length xs → (x : A) × (slice_get xs i ≡ Some x)
below_get [] i h = absurd (omega arith)
below_get (y ∷ ys) zero h = (y, refl)
below_get (y ∷ ys) (suc i) h = below_get ys i (omega arith)

pub get_index : {A : Type 0} (xs : List A) (i : ℕ) (x d : A) → slice_get xs i ≡ Some x → slice_index_or xs i d ≡ x
get_index [] i x d h = cc
get_index (y ∷ ys) zero x d h = cc
get_index (y ∷ ys) (suc i) x d h = get_index ys i x d h

pub index_get : {A : Type 0} (xs : List A) (i : ℕ) (d : A) → i < length xs → slice_get xs i ≡ Some (slice_index_or xs i d)
index_get [] i d h = absurd (omega arith)
index_get (y ∷ ys) zero d h = refl
index_get (y ∷ ys) (suc i) d h = index_get ys i d (omega arith)

pub all_get : {A : Type 0} (P : A → Type 0) (xs : List A) (i : ℕ) (x : A) → All P xs → slice_get xs i ≡ Some x → P x
all_get P xs i x a h = let e = get_index xs i x x h in let p : P (slice_index_or xs i x) = a i x (get_below xs i x h) in rw e at p

-- what reading an element says
pub read_get : {A : Type 0} (xs : List A) (i : ℕ) (x : A) → i < length xs → x ≡ slice_index_or xs i x → slice_get xs i ≡ Some x
read_get xs i x h e = index_get xs i x h ∙ ap Some (sym e)

-- what reading a number says, where it is read at this place
pub read_at : (xs : List ℕ) (i u r : ℕ) → i ≡ u → u < length xs → r ≡ slice_index_or xs i r → r ≡ slice_index_or xs u 0
read_at xs i u r e h g = g ∙ ap (λ j. slice_index_or xs j r) e ∙ sym (get_or_default xs u 0 r h)

-- the same of a mark
pub read_mark : (xs : List Bool) (i u : ℕ) (r : Bool) → i ≡ u → u < length xs → r ≡ slice_index_or xs i r → slice_index_or xs u false ≡ r
read_mark xs i u r e h g = get_or_default xs u false r h ∙ sym (g ∙ ap (λ j. slice_index_or xs j r) e)

-- ---- writing an element

pub get_set_same : {A : Type 0} (xs : List A) (i : ℕ) (x : A) → i < length xs → slice_get (slice_set xs i x) i ≡ Some x
get_set_same [] i x h = absurd (omega arith)
get_set_same (y ∷ ys) zero x h = refl
get_set_same (y ∷ ys) (suc i) x h = get_set_same ys i x (omega arith)

pub get_set_other : {A : Type 0} (xs : List A) (i j : ℕ) (x : A) → i ≢ j → slice_get (slice_set xs i x) j ≡ slice_get xs j
get_set_other [] i j x n = refl
get_set_other (y ∷ ys) zero zero x n = absurd (n refl)
get_set_other (y ∷ ys) zero (suc j) x n = refl
get_set_other (y ∷ ys) (suc i) zero x n = refl
get_set_other (y ∷ ys) (suc i) (suc j) x n = get_set_other ys i j x (λ e. n (ap suc e))

-- ---- one element more

pub get_push_old : {A : Type 0} (xs : List A) (x : A) (i : ℕ) → i < length xs → slice_get (xs ++ x ∷ []) i ≡ slice_get xs i
get_push_old [] x i h = absurd (omega arith)
get_push_old (y ∷ ys) x zero h = refl
get_push_old (y ∷ ys) x (suc i) h = get_push_old ys x i (omega arith)

pub get_push_new : {A : Type 0} (xs : List A) (x : A) (i : ℕ) → length xs ≡ i → slice_get (xs ++ x ∷ []) i ≡ Some x
get_push_new [] x zero h = refl
get_push_new [] x (suc i) h = absurd (omega arith)
get_push_new (y ∷ ys) x zero h = absurd (omega arith)
get_push_new (y ∷ ys) x (suc i) h = get_push_new ys x i (omega arith)
