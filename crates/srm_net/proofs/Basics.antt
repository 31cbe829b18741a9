-- Lemmas that several crates use: of tests, comparisons, lists of numbers, two lists item by item, and lists that are kept
-- in order.
use Rattle.std.proofs.Common.{◌≡◌, ℕ, zero, suc, ◌+◌, Bool, true, false, cond, ◌&&◌, ◌||◌, T, List, [], ◌∷◌, ◌++◌, refl, sym, arith}
use Rattle.std.proofs.Common.{Ordering, Less, Equal, is_lt, nat_cmp}
use Rattle.std.specs.Cmp.{IsTotalOrder}
use Rattle.std.specs.FinMap.{slice_cmp-IsAntisymmetric, nat_cmp-IsAntisymmetric}
use Rattle.std.specs.Cmp.Lexicographic.{slice_cmp}
use Rattle.std.specs.List.{count_by, AllZip}
use Rattle.std.specs.Ordering.{is_eq, ordering_then}
use Rattle.std.proofs.lemmas.Cmp.{nat_cmp_total, tied_itself}
use Rattle.std.proofs.lemmas.List.Sums.{sum_by-append}
use Rattle.srm_net.specs.Orders.{AllAfter, place}

-- ---- tests

pub same_tests : (a b : Bool) → (a ≡ true → b ≡ true) → (b ≡ true → a ≡ true) → a ≡ b
same_tests true b f g = sym (f refl)
same_tests false true f g = g refl
same_tests false false f g = refl

pub or_turn : (a b c : Bool) → (a || (b || c)) ≡ (b || (a || c))
or_turn true true c = refl
or_turn true false c = refl
or_turn false b c = refl

pub T_first : (a b : Bool) → T (a && b) → T a
T_first true b h = tt
T_first false b h = absurd h

pub T_second : (a b : Bool) → T (a && b) → T b
T_second true b h = h
T_second false b h = absurd h

abbrev pub one_if : Bool → ℕ
one_if b = cond b 1 0

-- one element more is counted where it passes the test
pub count_last : {A : Type 0} (q : A → Bool) (xs : List A) (x : A) → count_by q (xs ++ x ∷ []) ≡ count_by q xs + one_if (q x)
count_last q xs y = let e = sum_by-append (λ x. cond (q x) 1 0) xs (y ∷ []) in omega arith

-- ---- comparisons

pub is_Less : (r : Ordering) → is_lt r ≡ true → r ≡ Less
is_Less r h = grind arith

pub is_Equal : (r : Ordering) → is_eq r ≡ true → r ≡ Equal
is_Equal r h = grind arith

pub T_less : (r : Ordering) → T (is_lt r) → r ≡ Less
T_less r h = grind arith

-- three comparisons, grouped to the left
pub regrouped : (a b c : Ordering) → ordering_then (ordering_then a b) c ≡ ordering_then a (ordering_then b (ordering_then c Equal))
regrouped a b c = grind arith

pub nat_cmp_self : (n : ℕ) → nat_cmp n n ≡ Equal
nat_cmp_self n = tied_itself nat_cmp_total n

-- ---- lists of numbers

-- lists of numbers that the order does not tell apart are equal
pub same_numbers : (xs ys : List ℕ) → slice_cmp nat_cmp xs ys ≡ Equal → xs ≡ ys
same_numbers xs ys e = slice_cmp-IsAntisymmetric nat_cmp-IsAntisymmetric xs ys e

unfoldable pub nth_number : ℕ → List ℕ → ℕ
nth_number n [] = 0
nth_number zero (x ∷ xs) = x
nth_number (suc n) (x ∷ xs) = nth_number n xs

-- ---- two lists, item by item

pub zip_append : {A B : Type 0} (R : A → B → Type 0) (xs : List A) (ys : List B) (vs : List A) (ws : List B) → AllZip R xs ys
    → AllZip R vs ws → AllZip R (xs ++ vs) (ys ++ ws)
zip_append R [] [] vs ws z w = w
zip_append R [] (y ∷ ys) vs ws z w = absurd z
zip_append R (x ∷ xs) [] vs ws z w = absurd z
zip_append R (x ∷ xs) (y ∷ ys) vs ws z w = (z.0, zip_append R xs ys vs ws z.1 w)

-- ---- lists that ascend

module _ {A : Type 0} (cmp : A → A → Ordering) (o : IsTotalOrder cmp) where
  after_cond : (x : A) (b : Bool) (ys zs : List A) → AllAfter cmp x ys → AllAfter cmp x zs → AllAfter cmp x (cond b ys zs)
  after_cond x true ys zs h g = h
  after_cond x false ys zs h g = g

  pub after_place : (x y : A) (zs : List A) → cmp x y ≡ Less → AllAfter cmp x zs → AllAfter cmp x (place cmp y zs)
  after_place x y [] h g = (h, tt)
  after_place x y (z ∷ zs) h g = after_cond x (is_lt (cmp z y)) (z ∷ place cmp y zs) (y ∷ z ∷ zs) (g.0, after_place x y zs h g.1) (h, g)

  pub after_less : (x y : A) (zs : List A) → cmp x y ≡ Less → AllAfter cmp y zs → AllAfter cmp x zs
  after_less x y [] h g = tt
  after_less x y (z ∷ zs) h g = (o.trans x y z h g.0, after_less x y zs h g.1)
