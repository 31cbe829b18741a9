-- Lists of numbers in which none stands twice.
use Rattle.std.proofs.Common.{◌≡◌, ◌≢◌, ◌⊎◌, ℕ, zero, suc, ◌+◌, ◌<◌, ◌≤◌, true, false, cond, List, [], ◌∷◌, ◌++◌, length, refl, sym, ap}
use Rattle.std.proofs.Common.{◌∙◌, subst, inl, inr, arith, eqb, nat_eq, eq-eqb, eqb-true}
use Rattle.std.specs.List.{IsDistinct, AllByRecursion}
use Rattle.std.proofs.lemmas.Bool.{or_cases, or_parts, or_left, or_right, or_from, ne_eqb, eqb-false, cases_Bool, cases_eq, both_ways}
use Rattle.std.proofs.lemmas.Bool.{false≢true, false_from_ne_true}
use Rattle.srm_net.specs.Paths.{is_in}

-- no number stands twice
abbrev pub Apart : List ℕ → Type 0
Apart [] = Unit {0}
Apart (x ∷ xs) = (is_in xs x ≡ false) × Apart xs

pub in_head : (x : ℕ) (xs : List ℕ) → is_in (x ∷ xs) x ≡ true
in_head x xs = or_left _ _ (eq-eqb x x refl)

pub in_tail : (x y : ℕ) (xs : List ℕ) → is_in xs y ≡ true → is_in (x ∷ xs) y ≡ true
in_tail x y xs h = or_right _ _ h

pub in_cases : (x y : ℕ) (xs : List ℕ) → is_in (x ∷ xs) y ≡ true → (x ≡ y) ⊎ (is_in xs y ≡ true)
in_cases x y xs h = elim (or_cases _ _ h) [ inl e ↦ inl (eqb-true x y e) | inr e ↦ inr e ]

pub not_head : (x y : ℕ) (xs : List ℕ) → is_in (x ∷ xs) y ≡ false → x ≢ y
not_head x y xs h e = eqb-false x y ((or_parts _ _ h).0) e

pub not_tail : (x y : ℕ) (xs : List ℕ) → is_in (x ∷ xs) y ≡ false → is_in xs y ≡ false
not_tail x y xs h = (or_parts _ _ h).1

pub not_in_cons : (x y : ℕ) (xs : List ℕ) → x ≢ y → is_in xs y ≡ false → is_in (x ∷ xs) y ≡ false
not_in_cons x y xs n h = or_from _ _ (ne_eqb x y n) h

pub not_in : (xs : List ℕ) (x : ℕ) → (is_in xs x ≡ true → ⊥) → is_in xs x ≡ false
not_in xs x h = false_from_ne_true _ h

all_other : (x : ℕ) (xs : List ℕ) → AllByRecursion (λ y. nat_eq x y ≡ false) xs → is_in xs x ≡ false
all_other x [] h = refl
all_other x (y ∷ ys) h = not_in_cons y x ys (λ e. eqb-false x y h.0 (sym e)) (all_other x ys h.1)

other_all : (x : ℕ) (xs : List ℕ) → is_in xs x ≡ false → AllByRecursion (λ y. nat_eq x y ≡ false) xs
other_all x [] h = tt
other_all x (y ∷ ys) h = (ne_eqb x y (λ e. not_head y x ys h (sym e)), other_all x ys (not_tail y x ys h))

pub apart_from_distinct : (xs : List ℕ) → IsDistinct nat_eq xs → Apart xs
unfolding IsDistinct
apart_from_distinct [] h = tt
apart_from_distinct (x ∷ xs) h = (all_other x xs h.0, apart_from_distinct xs h.1)

pub distinct_from_apart : (xs : List ℕ) → Apart xs → IsDistinct nat_eq xs
unfolding IsDistinct
distinct_from_apart [] h = tt
distinct_from_apart (x ∷ xs) h = (other_all x xs h.0, distinct_from_apart xs h.1)

-- ---- appending

pub in_append_left : (xs ys : List ℕ) (x : ℕ) → is_in xs x ≡ true → is_in (xs ++ ys) x ≡ true
in_append_left [] ys x h = absurd (false≢true h)
in_append_left (y ∷ xs) ys x h =
    elim (in_cases y x xs h) [
      | inl e ↦ subst (λ t. is_in (y ∷ (xs ++ ys)) t ≡ true) e (in_head y (xs ++ ys))
      | inr e ↦
          in_tail y x (xs ++ ys) (in_append_left xs ys x e)
    ]

pub in_append_right : (xs ys : List ℕ) (x : ℕ) → is_in ys x ≡ true → is_in (xs ++ ys) x ≡ true
in_append_right [] ys x h = h
in_append_right (y ∷ xs) ys x h = in_tail y x (xs ++ ys) (in_append_right xs ys x h)

pub in_append_cases : (xs ys : List ℕ) (x : ℕ) → is_in (xs ++ ys) x ≡ true → (is_in xs x ≡ true) ⊎ (is_in ys x ≡ true)
in_append_cases [] ys x h = inr h
in_append_cases (y ∷ xs) ys x h =
    elim (in_cases y x (xs ++ ys) h) [
      | inl e ↦ inl (subst (λ t. is_in (y ∷ xs) t ≡ true) e (in_head y xs))
      | inr e ↦ elim (in_append_cases xs ys x e) [ inl f ↦ inl (in_tail y x xs f) | inr f ↦ inr f ]
    ]

pub apart_push : (xs : List ℕ) (x : ℕ) → Apart xs → is_in xs x ≡ false → Apart (xs ++ x ∷ [])
apart_push [] x h n = (refl, tt)
apart_push (y ∷ ys) x h n = (
  not_in _ y (λ e. elim (in_append_cases ys (x ∷ []) y e)
      [ inl f ↦ both_ways _ h.0 f | inr f ↦ elim (in_cases x y [] f) [ inl g ↦ not_head y x ys n (sym g) | inr g ↦ false≢true g ] ]),
  apart_push ys x h.1 (not_tail y x ys n),
)

-- ---- counting

-- without x
abbrev without : ℕ → List ℕ → List ℕ
without x [] = []
without x (y ∷ ys) = cond (eqb y x) ys (y ∷ without x ys)

without_length : (x : ℕ) (ys : List ℕ) → is_in ys x ≡ true → length (without x ys) + 1 ≡ length ys
without_length x [] h = absurd (false≢true h)
without_length x (y ∷ ys) h =
    elim (cases_Bool (eqb y x)) [
      | inl e ↦ rw e (omega arith)
      | inr e ↦ (let g : is_in ys x ≡ true = elim (or_cases _ _ h) [ inl f ↦ absurd (both_ways _ e f) | inr f ↦ f ] in
          rw e (let k = without_length x ys g in omega arith))
    ]

without_other : (x z : ℕ) (ys : List ℕ) → x ≢ z → is_in ys z ≡ true → is_in (without x ys) z ≡ true
without_other x z [] n h = h
without_other x z (y ∷ ys) n h =
    elim (cases_Bool (eqb y x)) [
      | inl e ↦ rw e (elim (in_cases y z ys h) [ inl f ↦ absurd (n (sym (eqb-true y x e) ∙ f)) | inr f ↦ f ])
      | inr e ↦ rw e (elim (in_cases y z ys h) [ inl f ↦ or_left _ _ (eq-eqb y z f) | inr f ↦ or_right _ _ (without_other x z ys n f) ])
    ]

-- numbers that differ and all stand in a list are no more than it has
pub fewer_apart : (xs ys : List ℕ) → Apart xs → ((x : ℕ) → is_in xs x ≡ true → is_in ys x ≡ true) → length xs ≤ length ys
fewer_apart [] ys a h = omega arith
fewer_apart (x ∷ xs) ys a h =
    let here : is_in ys x ≡ true = h x (in_head x xs) in
    let n = without_length x ys here in
    let k = fewer_apart xs (without x ys) a.1 (λ z i. without_other x z ys (λ e. both_ways _ a.0 (subst (λ v. is_in xs v ≡ true) (sym e) i))
    (h z (in_tail x z xs i))) in
    omega arith

-- the numbers below n
abbrev pub upto : ℕ → List ℕ
upto zero = []
upto (suc n) = n ∷ upto n

upto_length : (n : ℕ) → length (upto n) ≡ n
upto_length zero = refl
upto_length (suc n) = ap suc (upto_length n)

in_upto : (n x : ℕ) → x < n → is_in (upto n) x ≡ true
in_upto zero x h = absurd (omega arith)
in_upto (suc n) x h = elim (cases_eq n x) [
  | inl e ↦ subst (λ t. is_in (n ∷ upto n) t ≡ true) e (in_head n (upto n))
  | inr e ↦
      in_tail n x (upto n) (in_upto n x (omega arith))
]

from_upto : (n x : ℕ) → is_in (upto n) x ≡ true → x < n
from_upto zero x h = absurd (false≢true h)
from_upto (suc n) x h = elim (in_cases n x (upto n) h) [ inl e ↦ omega arith | inr e ↦ (let k = from_upto n x e in omega arith) ]

upto_apart : (n : ℕ) → Apart (upto n)
upto_apart zero = tt
upto_apart (suc n) = (not_in (upto n) n (λ i. let k = from_upto n n i in omega arith), upto_apart n)

-- the numbers of a list that all stand below n
abbrev pub Below : ℕ → List ℕ → Type 0
Below n xs = (x : ℕ) → is_in xs x ≡ true → x < n

-- there are at most n different numbers below n
pub few_apart : (n : ℕ) (xs : List ℕ) → Apart xs → Below n xs → length xs ≤ n
few_apart n xs a b = let k = fewer_apart xs (upto n) a (λ x i. in_upto n x (b x i)) in let e = upto_length n in omega arith

-- n different numbers below n are all of them
pub all_below : (n : ℕ) (xs : List ℕ) → Apart xs → Below n xs → n ≤ length xs → (x : ℕ) → x < n → is_in xs x ≡ true
all_below n xs a b f x h =
    elim (cases_Bool (is_in xs x)) [
      | inl e ↦ e
      | inr e ↦ (let k = few_apart n (x ∷ xs) (e, a) (λ y i. elim (in_cases x y xs i) [ inl p ↦ subst (λ t. t < n) p h | inr p ↦ b y p ]) in
          absurd (omega arith))
    ]

search_below : (xs : List ℕ) (n : ℕ) → ((x : ℕ) → x < n → is_in xs x ≡ true) ⊎ ((x : ℕ) × (x < n) × (is_in xs x ≡ false))
search_below xs zero = inl (λ x h. absurd (omega arith))
search_below xs (suc n) =
    elim (cases_Bool (is_in xs n)) [
      | inr e ↦ inr (n, omega arith, e)
      | inl e ↦ elim (search_below xs n) [
        | inr p ↦ inr (p.0, (let k : p.0 < n = p.1 in omega arith), p.2)
        | inl p ↦ inl (λ x h. elim (cases_eq n x) [ inl q ↦ subst (λ t. is_in xs t ≡ true) q e | inr q ↦ p x (omega arith) ])
      ]
    ]

-- fewer than n numbers leave out one below n
pub one_missing : (n : ℕ) (xs : List ℕ) → length xs < n → (x : ℕ) × (x < n) × (is_in xs x ≡ false)
one_missing n xs h =
    elim (search_below xs n) [
      | inr p ↦ p
      | inl p ↦ (let k = fewer_apart (upto n) xs (upto_apart n) (λ x i. p x (from_upto n x i)) in let e = upto_length n in
          absurd (omega arith))
    ]
