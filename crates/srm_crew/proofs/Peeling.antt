-- What comes of items at indices, each taken once at most, seen item by item.
use Rattle.std.proofs.Common.{◌≡◌, ◌≢◌, ◌≤◌, ◌⊎◌, ℕ, zero, suc, ◌+◌, cond, ◌==◌, List, [], ◌∷◌, length, refl, sym, ap, ◌∙◌, subst}
use Rattle.std.proofs.Common.{inl, inr, ⊎_elim, arith, eq-eqb, ne_eqb, lt_of_not-le}
use Rattle.std.specs.List.{AllZip}
use mathlib.Core.Logic.{dite}
use native.Mathlib.Decide.{ℕ_discrete, dec_le}
use Rattle.srm_crew.specs.Indices.{times, EachOnce}
use Rattle.srm_interfaces.specs.Crews.{counted_in}
use Rattle.srm_crew.specs.Shared.{HoldsAt, sum_of}
use Rattle.std.proofs.lemmas.Option.{same_Some}

-- ---- indices

times_more : (p : ℕ) (ps : List ℕ) → times p (p ∷ ps) ≡ times p ps + 1
times_more p ps = let one : cond {A = ℕ} (p == p) 1 0 ≡ 1 = ap (λ b. cond {A = ℕ} b 1 0) (eq-eqb p p refl) in omega (arith, one)

times_same : (p q : ℕ) (ps : List ℕ) → p ≢ q → times p (q ∷ ps) ≡ times p ps
times_same p q ps apart = let none : cond {A = ℕ} (p == q) 1 0 ≡ 0 = ap (λ b. cond {A = ℕ} b 1 0) (ne_eqb p q apart) in omega (arith, none)

-- the indices but for the first of all, from there on
pub lower : List ℕ → List ℕ
lower [] = []
lower (zero ∷ ps) = lower ps
lower (suc q ∷ ps) = q ∷ lower ps

pub lower_times : (p : ℕ) (ps : List ℕ) → times p (lower ps) ≡ times (suc p) ps
unfolding lower
lower_times p [] = refl
lower_times p (zero ∷ ps) = lower_times p ps ∙ sym (times_same (suc p) zero ps (λ e. absurd (omega arith)))
lower_times p (suc q ∷ ps) =
    let more = lower_times p ps in
    dite (ℕ_discrete p q)
    (λ e. let one = times_more q (lower ps) in let two = times_more (suc q) ps in
    subst (λ r. times r (q ∷ lower ps) ≡ times (suc r) (suc q ∷ ps)) (sym e) (let m = lower_times q ps in omega (arith, one, two, m)))
    (λ apart. times_same p q (lower ps) apart ∙ more ∙ sym (times_same (suc p) (suc q) ps (λ e. apart (omega arith))))

lower_length : (ps : List ℕ) → length ps ≡ times 0 ps + length (lower ps)
unfolding lower
lower_length [] = refl
lower_length (zero ∷ ps) = let more = lower_length ps in let one = times_more zero ps in omega (arith, more, one)
lower_length (suc q ∷ ps) = let more = lower_length ps in let same = times_same zero (suc q) ps (λ e. absurd (omega arith)) in
    omega (arith, more, same)

lower_once : (n : ℕ) (ps : List ℕ) → EachOnce ps (suc n) → EachOnce (lower ps) n
lower_once n ps once = (λ p lt. lower_times p ps ∙ once.0 (suc p) (omega arith), λ p le. lower_times p ps ∙ once.1 (suc p) (omega arith))

none_once : (ps : List ℕ) → EachOnce ps 0 → ps ≡ []
none_once [] once = refl
none_once (p ∷ ps) once = absurd (let e = once.1 p (omega arith) in let one = times_more p ps in omega (arith, e, one))

pub once_length : (n : ℕ) (ps : List ℕ) → EachOnce ps n → length ps ≡ n
once_length zero ps once = ap length (none_once ps once)
once_length (suc n) ps once =
    let first = once.0 0 (omega arith) in
    let more = once_length n (lower ps) (lower_once n ps once) in
    let all = lower_length ps in omega (arith, first, more, all)

-- ---- what comes of the items

module _ {T D : Type 0} (Q : T → D → Type 0) (numbers : D → List ℕ) where
  -- without the first item
  pub record Peeled (x : T) (xs : List T) (ps : List ℕ) (ds : List D) : Type 0 where
    pub results : List D
    pub rest : AllZip (λ p d. HoldsAt (λ y. Q y d) xs p) (lower ps) results
    pub first : ((times 0 ps ≡ 0) × ((k : ℕ) → sum_of numbers k ds ≡ sum_of numbers k results))
        ⊎ ((times 0 ps ≡ 1) × (d : D) × Q x d × ((k : ℕ) → sum_of numbers k ds ≡ counted_in (numbers d) k + sum_of numbers k results))

  pub peel : (x : T) (xs : List T) (ps : List ℕ) (ds : List D) → ((p : ℕ) → times p ps ≤ 1)
      → AllZip (λ p d. HoldsAt (λ y. Q y d) (x ∷ xs) p) ps ds → Peeled x xs ps ds
  unfolding lower
  peel x xs [] [] once z = record { results = []; rest = tt; first = inl (refl, λ k. refl) }
  peel x xs [] (d ∷ ds) once z = absurd z
  peel x xs (p ∷ ps) [] once z = absurd z
  peel x xs (zero ∷ ps) (d ∷ ds) once z =
      let one = times_more zero ps in
      let most = once 0 in
      let none : times 0 ps ≡ 0 = omega (arith, one, most) in
      let r = peel x xs ps ds (λ q. let o = once q in omega (arith, o)) z.1 in
      let same : (k : ℕ) → sum_of numbers k ds ≡ sum_of numbers k r.results =
      ⊎_elim (λ (h : (times 0 ps ≡ 0) × ((k : ℕ) → sum_of numbers k ds ≡ sum_of numbers k r.results)). h.1)
      (λ h. absurd (let e = h.0 in omega (arith, e, none))) r.first in
      record {
        results = r.results;
        rest = r.rest;
        first = inr (
          omega (arith, one, none),
          d,
          subst (λ y. Q y d) (sym (same_Some x z.0.0 z.0.1)) z.0.2,
          λ k. let e = same k in
              omega (arith, e),
        );
      }
  peel x xs (suc q ∷ ps) (d ∷ ds) once z =
      let other = times_same zero (suc q) ps (λ e. absurd (omega arith)) in
      let r = peel x xs ps ds (λ q. let o = once q in omega (arith, o)) z.1 in
      record {
        results = d ∷ r.results;
        rest = (z.0, r.rest);
        first = ⊎_elim
            (λ (h : (times 0 ps ≡ 0) × ((k : ℕ) → sum_of numbers k ds ≡ sum_of numbers k r.results)). inl
            (other ∙ h.0, λ k. let e = h.1 k in omega (arith, e)))
            (λ (h : (times 0 ps ≡ 1) × (e : D) × Q x e
            × ((k : ℕ) → sum_of numbers k ds ≡ counted_in (numbers e) k + sum_of numbers k r.results)).
            inr (other ∙ h.0, h.1, h.2, λ k. let e = h.3 k in omega (arith, e)))
            r.first;
      }

module _ {D : Type 0} (numbers : D → List ℕ) where
  -- where each of these stands at its index of a list, and there is no more in it, the sums are the same
  pub sum_same : (all : List D) (ps : List ℕ) (ds : List D) → EachOnce ps (length all) → AllZip (λ p d. HoldsAt (λ x. x ≡ d) all p) ps ds
      → (k : ℕ) → sum_of numbers k ds ≡ sum_of numbers k all
  sum_same [] [] [] once z k = refl
  sum_same [] [] (d ∷ ds) once z k = absurd z
  sum_same [] (p ∷ ps) ds once z k = absurd (let e = once.1 p (omega arith) in let one = times_more p ps in omega (arith, e, one))
  sum_same (x ∷ xs) ps ds once z k =
      let r = peel (λ x d. x ≡ d) numbers x xs ps ds (λ p. at_most (length xs) ps once p) z in
      let more = sum_same xs (lower ps) r.results (lower_once (length xs) ps once) r.rest k in
      let here = once.0 0 (omega arith) in
      ⊎_elim
      (λ h. absurd (let e = h.0 in omega (arith, e, here)))
      (λ (h : (times 0 ps ≡ 1) × (d : D) × (x ≡ d)
      × ((k : ℕ) → sum_of numbers k ds ≡ counted_in (numbers d) k + sum_of numbers k r.results)).
      let e = h.3 k in let same : counted_in (numbers x) k ≡ counted_in (numbers h.1) k = ap (λ y. counted_in (numbers y) k) h.2 in
      omega (arith, e, same, more))
      r.first
    where
      at_most : (n : ℕ) (ps : List ℕ) → EachOnce ps (suc n) → (p : ℕ) → times p ps ≤ 1
      at_most n ps once p = dite (dec_le (suc n) p) (λ far. let e = once.1 p far in omega (arith, e))
          (λ near. let e = once.0 p (lt_of_not-le near) in omega (arith, e))
