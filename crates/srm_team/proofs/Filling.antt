-- Slots that are filled.
use Rattle.std.proofs.Common.{◌≡◌, ◌<◌, ◌⊎◌, inl, inr, ℕ, zero, suc, List, [], ◌∷◌, length, map, Option, Some, slice_get, set}
use Rattle.std.proofs.Common.{length-set, refl, ap, sym, subst, ◌∙◌, arith, Result, Ok, Err, IfOk}
use Rattle.std.proofs.lemmas.List.{length-map}
use Rattle.std.specs.List.{AllZip}
use Rattle.srm_team.specs.declared.batch.Batch.{Batch}
use Rattle.srm_team.specs.Tells.{Filled}

pub if_ok : {A E : Type 0} (P Q : A → Type 0) (r : Result A E) → IfOk r P → ((a : A) → P a → Q a) → IfOk r Q
if_ok P Q (Ok a) h f = f a h
if_ok P Q (Err e) h f = tt

-- each place of a list has an item
pub has : {A : Type 0} (xs : List A) (p : ℕ) → p < length xs → (x : A) × (slice_get xs p ≡ Some x)
has [] p lt = absurd (omega (arith, lt))
has (x ∷ xs) zero lt = (x, refl)
has (x ∷ xs) (suc p) lt = has xs p (omega (arith, lt))

next_case : {A : Type 0} (xs : List A) (p q : ℕ) (v a : A) → ((q ≡ p) × (a ≡ v)) ⊎ (slice_get xs q ≡ Some a)
    → ((suc q ≡ suc p) × (a ≡ v)) ⊎ (slice_get xs q ≡ Some a)
next_case xs p q v a (inl s) = inl (ap suc s.0, s.1)
next_case xs p q v a (inr k) = inr k

-- what stands in a list after a write was written, or stood there
pub set_cases : {A : Type 0} (xs : List A) (p q : ℕ) (v a : A) → slice_get (set xs p v) q ≡ Some a
    → ((q ≡ p) × (a ≡ v)) ⊎ (slice_get xs q ≡ Some a)
set_cases [] p q v a h = inr h
set_cases (x ∷ xs) zero zero v a h = inl (refl, cc h)
set_cases (x ∷ xs) zero (suc q) v a h = inr h
set_cases (x ∷ xs) (suc p) zero v a h = inr h
set_cases (x ∷ xs) (suc p) (suc q) v a h = next_case xs p q v a (set_cases xs p q v a h)

-- where each slot is full, what stands in them is what may come of the items
pub all_filled : {T D : Type 0} (post : T → D → Type 0) (items : List T) (ds : List D) → length ds ≡ length items
    → ((p : ℕ) (d : D) → slice_get (map Some ds) p ≡ Some (Some d) → (x : T) × (slice_get items p ≡ Some x) × post x d)
    → AllZip post items ds
all_filled post [] [] long f = tt
all_filled post [] (d ∷ ds) long f = absurd (omega (arith, long))
all_filled post (x ∷ xs) [] long f = absurd (omega (arith, long))
all_filled post (x ∷ xs) (d ∷ ds) long f =
    let here = f 0 d refl in
    let same : here.0 ≡ x = cc (here.1) in
    (subst (λ y. post y d) same here.2, all_filled post xs ds (omega (arith, long)) (λ p e h. f (suc p) e h))

pick : {T D : Type 0} (post : T → D → Type 0) (items : List T) (slots : List (Option D)) (p : ℕ) (d : D) → Filled post items slots
    → ((x : T) → slice_get items p ≡ Some x → post x d) → p < length slots
    → (q : ℕ) (e : D) → ((q ≡ p) × (Some e ≡ Some d)) ⊎ (slice_get slots q ≡ Some (Some e))
    → (x : T) × (slice_get items q ≡ Some x) × post x e
pick post items slots p d f at lt q e (inl s) =
    let there = has items p (omega (arith, lt, f.0)) in
    let same : e ≡ d = cc (s.1) in
    (there.0, subst (λ i. slice_get items i ≡ Some there.0) (sym s.0) there.1, subst (λ y. post there.0 y) (sym same) (at there.0 there.1))
pick post items slots p d f at lt q e (inr k) = f.1 q e k

-- a slot more is filled
pub filled_set : {T D : Type 0} (post : T → D → Type 0) (items : List T) (slots : List (Option D)) (p : ℕ) (d : D) → Filled post items slots
    → ((x : T) → slice_get items p ≡ Some x → post x d) → p < length slots → Filled post items (set slots p (Some d))
filled_set post items slots p d f at lt =
    (length-set slots p (Some d) ∙ f.0, λ q e h. pick post items slots p d f at lt q e (set_cases slots p q (Some d) (Some e) h))

-- the results of a list that was asked for, once each slot is full
pub told : {W T D : Type 0} (post : W → T → D → Type 0) (asked b : Batch W T) → asked ≡ b → (slots : List (Option D)) (ds : List D)
    → Filled (post asked.work) asked.items.items slots → map Some ds ≡ slots → AllZip (post b.work) b.items.items ds
told post asked b e slots ds f same =
    let full = subst (λ s. Filled (post asked.work) asked.items.items s) (sym same) f in
    subst (λ v. AllZip (post v.work) v.items.items ds) e
    (all_filled (post asked.work) asked.items.items ds (sym (length-map ds Some) ∙ full.0) full.1)
