-- The losses of a link, found one after the other, the last of them first.
use Rattle.std.proofs.Common.{◌≡◌, ℕ, zero, suc, ◌+◌, ◌<◌, ◌≤◌, Bool, true, false, ◌&&◌, ◌||◌, ◌==◌, List, length, take}
use Rattle.std.proofs.Common.{refl, ap, ◌∙◌, subst, inl, inr, arith, eq-eqb, eqb-true}
use Rattle.std.specs.List.{list_any}
use Rattle.std.proofs.lemmas.Bool.{cases_Bool}
use Rattle.std.proofs.lemmas.List.Folds.{list_any_more}
use Rattle.srm_net.specs.declared.link.LossSpec.{LossSpec}
use Rattle.srm_net.specs.LossTables.{no_loss, loss_at, last_of}

-- ---- the last loss of a link

pub last_at_most : (xs : List LossSpec) (l n : ℕ) → last_of xs l n ≤ n
last_at_most xs l zero = omega arith
last_at_most xs l (suc n) =
    elim (cases_Bool ((loss_at xs n).link == l)) [
      | inl e ↦ rw e (omega arith)
      | inr e ↦ rw e (let k = last_at_most xs l n in omega arith)
    ]

-- it is one of the first n, and of the link
pub record IsLast (xs : List LossSpec) (l n i : ℕ) : Type 0 where
  pub below : i < n
  pub link : (loss_at xs i).link ≡ l

pub last_there : (xs : List LossSpec) (l n i : ℕ) → last_of xs l n ≡ i + 1 → IsLast xs l n i
last_there xs l zero i h = absurd (omega arith)
last_there xs l (suc n) i h =
    elim (cases_Bool ((loss_at xs n).link == l)) [
      | inl e ↦ (let g : suc n ≡ i + 1 = rw e at h in
          let same : n ≡ i = omega arith in
          record { below = omega arith; link = subst (λ k. (loss_at xs k).link ≡ l) same (eqb-true (loss_at xs n).link l e) })
      | inr e ↦ (let g : last_of xs l n ≡ i + 1 = rw e at h in
          let k = last_there xs l n i g in
          let lt : i < n = k.below in
          record { below = omega arith; link = k.link })
    ]

-- ---- whether a loss of the link passes a test

abbrev pub of_link : ℕ → (LossSpec → Bool) → LossSpec → Bool
of_link l f o = (o.link == l) && f o

pub or_none : (b : Bool) → (b || false) ≡ b
or_none true = refl
or_none false = refl

or_true : (b : Bool) → (b || true) ≡ true
or_true true = refl
or_true false = refl

module _ (xs : List LossSpec) (l : ℕ) (f : LossSpec → Bool) where
  -- of one more
  one_more : (n : ℕ) → n < length xs → (b : Bool) → of_link l f (loss_at xs n) ≡ b
      → list_any (of_link l f) (take (n + 1) xs) ≡ (list_any (of_link l f) (take n xs) || b)
  one_more n h b e = list_any_more (of_link l f) xs n no_loss h ∙ ap (λ c. list_any (of_link l f) (take n xs) || c) e

  misses : (n : ℕ) → ((loss_at xs n).link == l) ≡ false → of_link l f (loss_at xs n) ≡ false
  misses n e = ap (λ c. c && f (loss_at xs n)) e

  -- none of the first n is of the link and later than the last
  any_of_last : (n : ℕ) → n ≤ length xs
      → list_any (of_link l f) (take n xs) ≡ list_any (of_link l f) (take (last_of xs l n) xs)
  any_of_last zero h = refl
  any_of_last (suc n) h =
      elim (cases_Bool ((loss_at xs n).link == l)) [
        | inl e ↦ rw e refl
        | inr e ↦
            (let s : suc n ≡ n + 1 = omega arith in
            rw e (ap (λ k. list_any (of_link l f) (take k xs)) s ∙ one_more n (omega arith) false (misses n e)
            ∙ or_none (list_any (of_link l f) (take n xs)) ∙ any_of_last n (omega arith)))
      ]

  module _ (n : ℕ) (few : n ≤ length xs) (all : list_any (of_link l f) xs ≡ list_any (of_link l f) (take n xs)) where
    pub none_left : last_of xs l n ≡ 0 → list_any (of_link l f) xs ≡ false
    none_left h = all ∙ any_of_last n few ∙ ap (λ k. list_any (of_link l f) (take k xs)) h

    module _ (i : ℕ) (h : last_of xs l n ≡ i + 1) where
      found : (b : Bool) → f (loss_at xs i) ≡ b → list_any (of_link l f) xs ≡ (list_any (of_link l f) (take i xs) || b)
      found b e =
          let k = last_there xs l n i h in
          let lt : i < n = k.below in
          all ∙ any_of_last n few ∙ ap (λ k. list_any (of_link l f) (take k xs)) h
          ∙ one_more i (omega arith) b (ap (λ c. c && f (loss_at xs i)) (eq-eqb (loss_at xs i).link l k.link) ∙ e)

      pub hit : f (loss_at xs i) ≡ true → list_any (of_link l f) xs ≡ true
      hit e = found true e ∙ or_true (list_any (of_link l f) (take i xs))

      pub missed : f (loss_at xs i) ≡ false → list_any (of_link l f) xs ≡ list_any (of_link l f) (take i xs)
      missed e = found false e ∙ or_none (list_any (of_link l f) (take i xs))
