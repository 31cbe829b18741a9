-- The index of next times: a tournament of words with the least at hand, and the times that it stands for.
use Rattle.std.proofs.Common.{◌≡◌, ◌≢◌, ℕ, zero, suc, ◌+◌, ◌-◌, ◌*◌, ◌/◌, ◌%◌, ◌^◌, ◌<◌, ◌≤◌, ◌⊎◌, inl, inr, Bool, true, false, cond}
use Rattle.std.proofs.Common.{◌==◌, List, [], ◌∷◌, length, Option, Some, None, refl, sym, ap, ◌∙◌, subst, arith, true≢false}
use Rattle.std.proofs.Common.{eqb-true, eq-eqb, zero-add, nat_lt, nat_le, slice_get, slice_set, slice_index_or}
use Rattle.std.proofs.Common.{get_or-set_same, get_or-set_other, ◌++◌, take, drop}
use Rattle.std.specs.Prelude.{min}
use Rattle.std.proofs.Math.ListN.{length-set}
use Rattle.std.proofs.Math.Nat.{div-div-eq-div-mul, div-one, le-mul_of_pos_right, mul_assoc, mul-le-mul_right, mul-mod_right}
use Rattle.std.proofs.Math.Nat.{pow-le-pow_right, pow-suc}
use Rattle.std.specs.Prelude.{max}
use Rattle.std.proofs.Math.Pow.{shr_mono}
use Rattle.std.proofs.Math.Seq.{take-append_seam}
use Rattle.std.proofs.lemmas.Bool.{eqb-false}
use Rattle.std.proofs.lemmas.Bool.Decides.{nat_tests}
use Rattle.std.proofs.lemmas.Nat.{and_mask, div-add-mod', div_below, le-div, pow-add, pow_below, pow_pos, shr-shr, shr_le}
use Rattle.std.specs.Int.Bits.{bit_and, bit_xor, xor_add_and}
use Rattle.srm_engine.specs.NextTimes.{sooner_time, least_of_times, is_time, word_of, word_at, winner_below, NotAbove}
use Rattle.srm_engine.specs.NextTimes.{AreWinners, AreWinnersBeside, KeepsLeaves, SetsLeaf, IsPower}
use Rattle.srm_engine.specs.NextTimes.{HaveLeaves, IsTournament, IsReplayed}

-- ---- the least

abbrev Found : ℕ × ℕ → List (Option ℕ) → Type 0
Found q ts = (n : ℕ) × (is_time q.0 (slice_get ts n) ≡ true)

found_first : (i v : ℕ) (ts : List (Option ℕ)) (q : ℕ × ℕ) → (v, i) ≡ q → Found q (Some v ∷ ts)
found_first i v ts q e = (0, eq-eqb v q.0 (ap (λ (p : ℕ × ℕ). p.0) e))

found_one : (i v : ℕ) (ts : List (Option ℕ)) (q : ℕ × ℕ) (o : Option (ℕ × ℕ))
    → ((p : ℕ × ℕ) → o ≡ Some p → Found p ts) → Some (sooner_time (v, i) o) ≡ Some q → Found q (Some v ∷ ts)
found_one i v ts q None more g = let same : (v, i) ≡ q = cc in found_first i v ts q same
found_one i v ts q (Some p) more g = elim (nat_le v p.0) as (λ b. Some (cond b (v, i) p) ≡ Some q → Found q (Some v ∷ ts)) [
  | true ↦ λ k. let same : (v, i) ≡ q = cc in found_first i v ts q same
  | false ↦ λ k.
      let same : p ≡ q = cc in
      let r = more p refl in
      (suc r.0, subst (λ (x : ℕ × ℕ). is_time x.0 (slice_get ts r.0) ≡ true) same r.1)
] g

found_is : (i : ℕ) (ts : List (Option ℕ)) (q : ℕ × ℕ) → least_of_times i ts ≡ Some q → Found q ts
found_is i [] q h = cc
found_is i (None ∷ ts) q h = let r = found_is (suc i) ts q h in (suc r.0, r.1)
found_is i (Some v ∷ ts) q h = found_one i v ts q (least_of_times (suc i) ts) (λ p e. found_is (suc i) ts p e) h

-- none of these times comes before this one of this member
abbrev pub IsLeast : ℕ → ℕ → List (Option ℕ) → Type 0
IsLeast t m ts = (u n : ℕ) → is_time u (slice_get ts n) ≡ true → (t < u) ⊎ ((t ≡ u) × (m ≤ n))

time_le : (t m u n : ℕ) → (t < u) ⊎ ((t ≡ u) × (m ≤ n)) → t ≤ u
time_le t m u n (inl h) = omega arith
time_le t m u n (inr h) = omega (arith, h.0)

shifted : (ts : List (Option ℕ)) (t m : ℕ) (x : Option ℕ) → IsLeast t (suc m) (x ∷ ts) → IsLeast t m ts
shifted ts t m x l u n g = elim (l u (suc n) g) [ inl a ↦ inl a | inr a ↦ inr (a.0, (let b = a.1 in omega arith)) ]

pub least_is : (ts : List (Option ℕ)) (t m : ℕ) → is_time t (slice_get ts m) ≡ true → IsLeast t m ts → (i : ℕ)
    → least_of_times i ts ≡ Some (t, i + m)
least_is [] t m h l i = absurd (true≢false (sym h))
least_is (None ∷ ts) t zero h l i = absurd (true≢false (sym h))
least_is (None ∷ ts) t (suc m) h l i =
    let e : suc i + m ≡ i + suc m = omega arith in
    least_is ts t m h (shifted ts t m None l) (suc i) ∙ ap (λ k. Some (t, k)) e
least_is (Some v ∷ ts) t zero h l i =
    let same : v ≡ t = eqb-true v t h in
    let e : i ≡ i + 0 = omega arith in
    ap Some (by (least_of_times (suc i) ts) refl ∙ ap (λ k. (k, i)) same ∙ ap (λ k. (t, k)) e)
  where
    by : (o : Option (ℕ × ℕ)) → least_of_times (suc i) ts ≡ o → sooner_time (v, i) o ≡ (v, i)
    by None e = refl
    by (Some q) e =
        let r = found_is (suc i) ts q e in
        let le = time_le t 0 q.0 (suc r.0) (l q.0 (suc r.0) r.1) in
        let same : v ≡ t = eqb-true v t h in
        let yes : nat_le v q.0 ≡ true = grind (arith, nat_tests) in
        ap (λ b. cond b (v, i) q) yes
least_is (Some v ∷ ts) t (suc m) h l i =
    let e : suc i + m ≡ i + suc m = omega arith in
    let more = least_is ts t m h (shifted ts t m (Some v) l) (suc i) in
    let lt : t < v = elim (l v 0 (eq-eqb v v refl)) [ inl a ↦ a | inr a ↦ (let b = a.1 in absurd (omega arith)) ] in
    let no : nat_le v t ≡ false = grind (arith, nat_tests) in
    ap (λ o. Some (sooner_time (v, i) o)) more ∙ ap (λ b. Some (cond b (v, i) (t, suc i + m))) no ∙ ap (λ k. Some (t, k)) e

-- ---- words

-- the number in a word
pub number_in : (o : Option ℕ) (m : ℕ) → m < 65536 → word_of o m % 65536 ≡ m
number_in None m lt = omega arith
number_in (Some t) m lt = omega arith

-- a word of a time before the latest is of that time
timely : (o : Option ℕ) (m : ℕ) → m < 65536 → word_of o m / 65536 < 70368744177664 → o ≡ Some (word_of o m / 65536)
timely None m lt h = absurd (omega arith)
timely (Some t) m lt h =
    let same : t ≡ (min t 70368744177664 * 65536 + m) / 65536 = omega arith in
    ap Some same

at_time : (ts : List (Option ℕ)) (m t : ℕ) → slice_index_or ts m None ≡ Some t → is_time t (slice_get ts m) ≡ true
at_time [] zero t e = cc
at_time [] (suc m) t e = cc
at_time (x ∷ ts) zero t e = ap (λ o. is_time t (Some o)) e ∙ eq-eqb t t refl
at_time (x ∷ ts) (suc m) t e = at_time ts m t e

timed : (ts : List (Option ℕ)) (u j : ℕ) → is_time u (slice_get ts j) ≡ true → (j < length ts) × (slice_index_or ts j None ≡ Some u)
timed [] u j h = absurd (true≢false (sym h))
timed (None ∷ ts) u zero h = absurd (true≢false (sym h))
timed (Some v ∷ ts) u zero h = (omega arith, ap Some (eqb-true v u h))
timed (t ∷ ts) u (suc j) h = let r = timed ts u j h in let lt = r.0 in (omega arith, r.1)

-- a word that is no greater than that of another time and member tells of a time before it, or of a member no later
sooner_word : (w u j : ℕ) → w / 65536 < 70368744177664 → j < 65536 → w ≤ min u 70368744177664 * 65536 + j
    → (w / 65536 < u) ⊎ ((w / 65536 ≡ u) × (w % 65536 ≤ j))
sooner_word w u j soon lt le = by (nat_lt (w / 65536) u) refl
  where
    by : (b : Bool) → nat_lt (w / 65536) u ≡ b → (w / 65536 < u) ⊎ ((w / 65536 ≡ u) × (w % 65536 ≤ j))
    by true e = let before : w / 65536 < u = grind (arith, nat_tests) in inl before
    by false e = let after : u ≤ w / 65536 = grind (arith, nat_tests) in inr (omega arith, omega arith)

-- what the first word tells is the least next time, where that is before the latest
pub first_told : (n : ℕ) (ts : List (Option ℕ)) (ws : List ℕ) (w : ℕ) → IsTournament n ts ws w → w / 65536 < 70368744177664
    → Some (w / 65536, w % 65536) ≡ least_of_times 0 ts
first_told n ts ws w h soon =
    let few = h.leaves.few in
    let room = h.leaves.room in
    let within = h.first.within in
    let m : ℕ = w % 65536 in
    let o : Option ℕ = slice_index_or ts m None in
    let is : w ≡ word_of o m = sym h.first.stands ∙ h.leaves.each m within in
    let at : o ≡ Some (w / 65536) =
    timely o m (omega arith) (subst (λ k. k / 65536 < 70368744177664) is soon) ∙ ap (λ k. Some (k / 65536)) (sym is) in
    sym (least_is ts (w / 65536) m (at_time ts m (w / 65536) at) (λ u j g.
    let r = timed ts u j g in
    let short : j < n = (let lt = r.0 in omega arith) in
    let far : w ≤ word_of (Some u) j =
    subst (λ p. w ≤ word_of p j) r.1 (subst (λ k. w ≤ k) (h.leaves.each j short) (h.first.least j short)) in
    sooner_word w u j soon (omega arith) far) 0 ∙ ap (λ k. Some (w / 65536, k)) (zero-add m))

-- ---- places

halves : (x : ℕ) → (x ≡ 2 * (x / 2)) ⊎ (x ≡ 2 * (x / 2) + 1)
halves x = grind arith

one_of_both : (a b : ℕ) → (min a b ≡ a) ⊎ (min a b ≡ b)
one_of_both a b = by (nat_le a b) refl
  where
    by : (c : Bool) → nat_le a b ≡ c → (min a b ≡ a) ⊎ (min a b ≡ b)
    by true e = let le : a ≤ b = grind (arith, nat_tests) in inl (omega arith)
    by false e = let lt : b < a = grind (arith, nat_tests) in inr (omega arith)

above : (ws : List ℕ) (i j : ℕ) → word_at ws i ≡ winner_below ws i → (j ≡ 2 * i) ⊎ (j ≡ 2 * i + 1) → word_at ws i ≤ word_at ws j
above ws i j at (inl e) =
    subst (λ k. word_at ws i ≤ word_at ws k) (sym e) (subst (λ k. k ≤ word_at ws (2 * i)) (sym at)
    (lesser_first (word_at ws (2 * i)) (word_at ws (2 * i + 1))))
  where
    lesser_first : (a b : ℕ) → min a b ≤ a
    lesser_first a b = omega arith
above ws i j at (inr e) =
    subst (λ k. word_at ws i ≤ word_at ws k) (sym e) (subst (λ k. k ≤ word_at ws (2 * i + 1)) (sym at)
    (lesser_second (word_at ws (2 * i)) (word_at ws (2 * i + 1))))
  where
    lesser_second : (a b : ℕ) → min a b ≤ b
    lesser_second a b = omega arith

-- what is neither above the half of a place nor the place itself is not above the place
pub not_above : (i p : ℕ) → NotAbove i (p / 2) → i ≢ p → (d : ℕ) → i ≡ p / 2 ^ d → ⊥
not_above i p h ne zero g = ne (g ∙ div-one p)
not_above i p h ne (suc d) g =
    let turned : 2 * 2 ^ d ≡ 2 ^ d * 2 = omega arith in
    h d (g ∙ ap (λ k. p / k) (pow-suc 2 d ∙ sym turned) ∙ sym (div-div-eq-div-mul p 2 (2 ^ d)))

-- what is not above a place is not the half of it
pub not_half : (i p : ℕ) → NotAbove i (p / 2) → i ≢ p / 2
not_half i p h e = h 0 (e ∙ sym (div-one (p / 2)))

-- ---- the first word of a whole tournament

module _ (ws : List ℕ) (n : ℕ) (size : length ws ≡ 2 * n) (tree : AreWinners ws) where
  first_of_all : (k j : ℕ) → j ≤ k → 0 < j → j < length ws → word_at ws 1 ≤ word_at ws j
  first_of_all zero j le pos lt = absurd (omega arith)
  first_of_all (suc k) zero le pos lt = absurd (omega arith)
  first_of_all (suc k) (suc zero) le pos lt = omega arith
  first_of_all (suc k) (suc (suc i)) le pos lt =
      let j : ℕ = suc (suc i) in
      let far : word_at ws 1 ≤ word_at ws (j / 2) = first_of_all k (j / 2) (omega arith) (omega arith) (omega arith) in
      let near : word_at ws (j / 2) ≤ word_at ws j = above ws (j / 2) j (tree (j / 2) (omega arith) (omega arith)) (halves j) in
      omega arith

  -- each word is that of some member
  of_a_leaf : (k i : ℕ) → 2 * n ≤ i + k → 0 < i → i < 2 * n → (m : ℕ) × (m < n) × (word_at ws i ≡ word_at ws (n + m))
  of_a_leaf zero i le pos lt = absurd (omega arith)
  of_a_leaf (suc k) i le pos lt =
      elim (nat_lt i n) as (λ b. nat_lt i n ≡ b → (m : ℕ) × (m < n) × (word_at ws i ≡ word_at ws (n + m))) [
        | true ↦ λ e.
            let inner : i < n = grind (arith, nat_tests) in
            let at : word_at ws i ≡ winner_below ws i = tree i pos (omega arith) in
            elim (one_of_both (word_at ws (2 * i)) (word_at ws (2 * i + 1))) [
              | inl f ↦ let r = of_a_leaf k (2 * i) (omega arith) (omega arith) (omega arith) in (r.0, r.1, at ∙ f ∙ r.2)
              | inr f ↦ let r = of_a_leaf k (2 * i + 1) (omega arith) (omega arith) (omega arith) in (r.0, r.1, at ∙ f ∙ r.2)
            ]
        | false ↦ λ e.
            let leaf : n ≤ i = grind (arith, nat_tests) in
            let m : ℕ = i - n in
            let is : i ≡ n + m = omega arith in
            (m, omega arith, ap (word_at ws) is)
      ] refl

-- so it is once the winners are raised over the leaves
pub raised : (n : ℕ) (ts : List (Option ℕ)) (ws fs : List ℕ) → HaveLeaves n ts ws → length fs ≡ length ws → AreWinners fs
    → KeepsLeaves ws fs → IsTournament n ts fs (word_at fs 1)
raised n ts ws fs h len tree keeps =
    let some = h.some in
    let few = h.few in
    let was : length ws ≡ 2 * n = h.size in
    let size : length fs ≡ 2 * n = len ∙ was in
    let leaves : HaveLeaves n ts fs = record {
      size = size;
      power = subst IsPower (sym len) h.power;
      some = some;
      few = few;
      room = h.room;
      each = λ m lt. keeps (n + m) (omega arith) ∙ h.each m lt;
    } in
    let leaf = of_a_leaf fs n size tree (2 * n) 1 (omega arith) (omega arith) (omega arith) in
    let m : ℕ = leaf.0 in
    let lt : m < n = leaf.1 in
    let number : word_at fs 1 % 65536 ≡ m =
    ap (λ k. k % 65536) (leaf.2 ∙ leaves.each m lt) ∙ number_in (slice_index_or ts m None) m (omega arith) in
    record {
      leaves = leaves;
      first = record {
        within = subst (λ k. k < n) (sym number) lt;
        stands = ap (λ k. word_at fs (n + k)) number ∙ sym leaf.2;
        least = λ k below. first_of_all fs n size tree (2 * n) (n + k) (omega arith) (omega arith) (omega arith);
      };
      tree = λ i pos below apart. tree i pos below;
    }

-- ---- the leaves below a place

-- so the places with two below them double
twice : (i q : ℕ) → (i + 1) * (q * 2) ≡ (2 * i + 2) * q
twice i q =
    let turned : q * 2 ≡ 2 * q = omega arith in
    let even : (i + 1) * 2 ≡ 2 * i + 2 = omega arith in
    ap (λ k. (i + 1) * k) turned ∙ sym (mul_assoc (i + 1) 2 q) ∙ ap (λ k. k * q) even

-- the word of place i, of this height, is that of a leaf below it, and no leaf's below it is less
record IsLowest (d i : ℕ) (ws : List ℕ) : Type 0 where
  each : (j : ℕ) → j / 2 ^ d ≡ i → word_at ws i ≤ word_at ws j
  one : (j : ℕ) × (j / 2 ^ d ≡ i) × (word_at ws i ≡ word_at ws j)

lowest : (ws : List ℕ) (d i : ℕ) → 0 < i → (i + 1) * 2 ^ d ≤ length ws
    → ((v : ℕ) → i ≤ v → 2 * v + 1 < length ws → word_at ws v ≡ winner_below ws v) → IsLowest d i ws
lowest ws zero i pos room won = record {
  each = λ j e.
      let same : i ≡ j = sym e ∙ div-one j in
      subst (λ k. word_at ws i ≤ word_at ws k) same (itself (word_at ws i));
  one = (i, div-one i, refl);
}
  where
    itself : (a : ℕ) → a ≤ a
    itself a = omega arith
lowest ws (suc d) i pos room won =
    let q : ℕ = 2 ^ d in
    let double : 2 ^ suc d ≡ q * 2 = pow-suc 2 d in
    let wide : (2 * i + 2) * q ≤ length ws = subst (λ k. k ≤ length ws) (ap (λ k. (i + 1) * k) double ∙ twice i q) room in
    let least : 2 * i + 2 ≤ (2 * i + 2) * q = le-mul_of_pos_right (2 * i + 2) (pow_pos d) in
    let at : word_at ws i ≡ winner_below ws i = won i (omega arith) (omega arith) in
    let first : (2 * i + 1) * q ≤ (2 * i + 2) * q = mul-le-mul_right q (omega arith) in
    let second : (2 * i + 1 + 1) * q ≤ (2 * i + 2) * q = mul-le-mul_right q (omega arith) in
    let left : IsLowest d (2 * i) ws = lowest ws d (2 * i) (omega arith) (omega arith) (λ v le below. won v (omega arith) below) in
    let right : IsLowest d (2 * i + 1) ws =
    lowest ws d (2 * i + 1) (omega arith) (omega arith) (λ v le below. won v (omega arith) below) in
    record {
      each = λ j e.
          let half : j / q / 2 ≡ i = div-div-eq-div-mul j q 2 ∙ ap (λ k. j / k) (sym double) ∙ e in
          elim (halves (j / q)) [
            | inl f ↦
                let here : j / q ≡ 2 * i = f ∙ ap (λ k. 2 * k) half in
                let upper : word_at ws i ≤ word_at ws (2 * i) = above ws i (2 * i) at (inl refl) in
                let lower : word_at ws (2 * i) ≤ word_at ws j = left.each j here in
                omega arith
            | inr f ↦
                let here : j / q ≡ 2 * i + 1 = f ∙ ap (λ k. 2 * k + 1) half in
                let upper : word_at ws i ≤ word_at ws (2 * i + 1) = above ws i (2 * i + 1) at (inr refl) in
                let lower : word_at ws (2 * i + 1) ≤ word_at ws j = right.each j here in
                omega arith
          ];
      one = elim (one_of_both (word_at ws (2 * i)) (word_at ws (2 * i + 1))) [
        | inl f ↦
            let j : ℕ = left.one.0 in
            let even : 2 * i / 2 ≡ i = omega arith in
            (j, ap (λ k. j / k) double ∙ sym (div-div-eq-div-mul j q 2) ∙ ap (λ k. k / 2) left.one.1 ∙ even, at ∙ f ∙ left.one.2)
        | inr f ↦
            let j : ℕ = right.one.0 in
            let odd : (2 * i + 1) / 2 ≡ i = omega arith in
            (j, ap (λ k. j / k) double ∙ sym (div-div-eq-div-mul j q 2) ∙ ap (λ k. k / 2) right.one.1 ∙ odd, at ∙ f ∙ right.one.2)
      ];
    }

-- the leaves below a place above one of n leaves are among these
record IsSpan (n len s q : ℕ) : Type 0 where
  low : n ≤ s * q
  high : (s + 1) * q ≤ len

span : (len n d leaf : ℕ) → len ≡ 2 * n → IsPower len → n ≤ leaf → leaf < len → 0 < leaf / 2 ^ d → IsSpan n len (leaf / 2 ^ d) (2 ^ d)
span len n d leaf size power from till pos =
    let q : ℕ = 2 ^ d in
    let s : ℕ = leaf / q in
    let some : 0 < q = pow_pos d in
    let parts : s * q + leaf % q ≡ leaf = div-add-mod' leaf q in
    let one : 1 * q ≤ s * q = mul-le-mul_right q pos in
    let fits : q ≤ len = omega arith in
    let whole : len / q * q ≡ len = (let sum = div-add-mod' len q in let rest = power d fits in omega arith) in
    let below : s < len / q = div_below leaf q (len / q) some (subst (λ k. leaf < k) (sym whole) till) in
    let high : (s + 1) * q ≤ len / q * q = mul-le-mul_right q (omega arith) in
    let two : 2 * q ≤ (s + 1) * q = mul-le-mul_right q (omega arith) in
    let wide : q * 2 ≤ len = omega arith in
    let g : ℕ = len / (q * 2) in
    let double : 2 ^ suc d ≡ q * 2 = pow-suc 2 d in
    let rest : len % (q * 2) ≡ 0 = ap (λ k. len % k) (sym double) ∙ power (suc d) (subst (λ k. k ≤ len) (sym double) wide) in
    let pairs : g * (q * 2) ≡ len = (let sum = div-add-mod' len (q * 2) in omega arith) in
    let half : g * q ≡ n = (let turned : g * q * 2 ≡ g * (q * 2) = mul_assoc g q 2 in omega arith) in
    let least : g ≤ s = le-div g leaf q some (subst (λ k. k ≤ leaf) (sym half) from) in
    let low : g * q ≤ s * q = mul-le-mul_right q least in
    record { low = omega arith; high = omega arith }

leaf_below : (n len s q j : ℕ) → 0 < q → IsSpan n len s q → j / q ≡ s → (n ≤ j) × (j < len)
leaf_below n len s q j some h at =
    let parts : s * q + j % q ≡ j = ap (λ k. k * q + j % q) (sym at) ∙ div-add-mod' j q in
    let low = h.low in
    let high = h.high in
    (omega arith, by (nat_lt j len) refl)
  where
    by : (b : Bool) → nat_lt j len ≡ b → j < len
    by true e = grind (arith, nat_tests)
    by false e =
        let far : len ≤ j = grind (arith, nat_tests) in
        let high = h.high in
        let more : s + 1 ≤ j / q = le-div (s + 1) j q some (omega arith) in
        absurd (omega arith)

between : (d a b c s : ℕ) → a / 2 ^ d ≡ s → c / 2 ^ d ≡ s → a ≤ b → b ≤ c → b / 2 ^ d ≡ s
between d a b c s first last le more =
    let low : a / 2 ^ d ≤ b / 2 ^ d = shr_mono d le in
    let high : b / 2 ^ d ≤ c / 2 ^ d = shr_mono d more in
    omega arith

-- each power of two up to another divides that
pub power_is_power : (k : ℕ) → IsPower (2 ^ k)
power_is_power k d le = by (nat_lt k d) refl
  where
    by : (b : Bool) → nat_lt k d ≡ b → 2 ^ k % 2 ^ d ≡ 0
    by true e =
        let more : 2 ^ k < 2 ^ d = pow_below k d (grind (arith, nat_tests)) in
        absurd (omega arith)
    by false e =
        let most : d ≤ k = grind (arith, nat_tests) in
        let sum : k ≡ d + (k - d) = omega arith in
        ap (λ m. 2 ^ m % 2 ^ d) sum ∙ ap (λ p. p % 2 ^ d) (pow-add 2 d (k - d)) ∙ mul-mod_right (2 ^ d) (2 ^ (k - d))

-- ---- a time is set

leaves_set : (n : ℕ) (ts : List (Option ℕ)) (ws fs : List ℕ) (m : ℕ) (t : Option ℕ) → HaveLeaves n ts ws → m < length ts
    → length fs ≡ length ws → SetsLeaf (n + m) (word_of t m) ws fs → HaveLeaves n (slice_set ts m t) fs
leaves_set n ts ws fs m t h lt len set =
    let long : length (slice_set ts m t) ≡ length ts = length-set ts m t in
    let room = h.room in
    record {
      size = len ∙ h.size;
      power = subst IsPower (sym len) h.power;
      some = h.some;
      few = h.few;
      room = omega arith;
      each = λ j below. by h.size h.room j below (j == m) refl;
    }
  where
    by : length ws ≡ 2 * n → length ts ≤ n → (j : ℕ) → j < n → (b : Bool) → (j == m) ≡ b
        → word_at fs (n + j) ≡ word_of (slice_index_or (slice_set ts m t) j None) j
    by size room j below true f =
        let here : j ≡ m = eqb-true j m f in
        let at : word_at fs (n + m) ≡ word_of t m =
        set (n + m) (omega arith) ∙ get_or-set_same ws (n + m) (word_of t m) 0 (omega arith) in
        let now : slice_index_or (slice_set ts m t) m None ≡ t = get_or-set_same ts m t None lt in
        subst (λ k. word_at fs (n + k) ≡ word_of (slice_index_or (slice_set ts m t) k None) k) (sym here)
        (at ∙ ap (λ o. word_of o m) (sym now))
    by size room j below false f =
        let there : j ≢ m = eqb-false j m f in
        let apart : n + j ≢ n + m = λ g. there (omega arith) in
        let now : slice_index_or (slice_set ts m t) j None ≡ slice_index_or ts j None = get_or-set_other ts m j t None there in
        set (n + j) (omega arith) ∙ get_or-set_other ws (n + m) (n + j) (word_of t m) 0 apart ∙ h.each j below
        ∙ ap (λ o. word_of o j) (sym now)

-- another leaf than the one that was set is as it was
leaf_kept : (n : ℕ) (ws fs : List ℕ) (m x k : ℕ) → length ws ≡ 2 * n → SetsLeaf (n + m) x ws fs → k ≢ m
    → word_at fs (n + k) ≡ word_at ws (n + k)
leaf_kept n ws fs m x k size set ne =
    let apart : n + k ≢ n + m = λ g. ne (omega arith) in
    set (n + k) (omega arith) ∙ get_or-set_other ws (n + m) (n + k) x 0 apart

-- the time of a member that does not come first was set to one that does not come first
pub climbed : (n : ℕ) (ts : List (Option ℕ)) (ws fs : List ℕ) (w m : ℕ) (t : Option ℕ) → IsTournament n ts ws w → m < length ts
    → w % 65536 ≢ m → w < word_of t m → length fs ≡ length ws → SetsLeaf (n + m) (word_of t m) ws fs
    → AreWinnersBeside (n + w % 65536) fs → IsTournament n (slice_set ts m t) fs w
climbed n ts ws fs w m t h lt ne after len set tree =
    let leaves : HaveLeaves n (slice_set ts m t) fs = leaves_set n ts ws fs m t h.leaves lt len set in
    record {
      leaves = leaves;
      first = record {
        within = h.first.within;
        stands = leaf_kept n ws fs m (word_of t m) (w % 65536) h.leaves.size set ne ∙ h.first.stands;
        least = λ k below. by k below (k == m) refl;
      };
      tree = tree;
    }
  where
    by : (k : ℕ) → k < n → (b : Bool) → (k == m) ≡ b → w ≤ word_at fs (n + k)
    by k below true f =
        let here : k ≡ m = eqb-true k m f in
        let size = h.leaves.size in
        let room = h.leaves.room in
        let at : word_at fs (n + m) ≡ word_of t m =
        set (n + m) (omega arith) ∙ get_or-set_same ws (n + m) (word_of t m) 0 (omega arith) in
        subst (λ j. w ≤ word_at fs (n + j)) (sym here) (subst (λ x. w ≤ x) (sym at) (weaker w (word_of t m) after))
      where
        weaker : (a b : ℕ) → a < b → a ≤ b
        weaker a b less = omega arith
    by k below false f =
        subst (λ x. w ≤ x) (sym (leaf_kept n ws fs m (word_of t m) k h.leaves.size set (eqb-false k m f))) (h.first.least k below)

-- it was set to one that comes first
pub overtaken : (n : ℕ) (ts : List (Option ℕ)) (ws fs : List ℕ) (w m : ℕ) (t : Option ℕ) → IsTournament n ts ws w → m < length ts
    → word_of t m ≤ w → length fs ≡ length ws → SetsLeaf (n + m) (word_of t m) ws fs → AreWinnersBeside (n + m) fs
    → IsTournament n (slice_set ts m t) fs (word_of t m)
overtaken n ts ws fs w m t h lt before len set tree =
    let leaves : HaveLeaves n (slice_set ts m t) fs = leaves_set n ts ws fs m t h.leaves lt len set in
    let few = h.leaves.few in
    let room = h.leaves.room in
    let size = h.leaves.size in
    let number : word_of t m % 65536 ≡ m = number_in t m (omega arith) in
    let at : word_at fs (n + m) ≡ word_of t m =
    set (n + m) (omega arith) ∙ get_or-set_same ws (n + m) (word_of t m) 0 (omega arith) in
    record {
      leaves = leaves;
      first = record {
        within = subst (λ k. k < n) (sym number) (omega arith);
        stands = ap (λ k. word_at fs (n + k)) number ∙ at;
        least = λ k below. by at k below (k == m) refl;
      };
      tree = subst (λ k. AreWinnersBeside (n + k) fs) (sym number) tree;
    }
  where
    through : (a b c : ℕ) → a ≤ b → b ≤ c → a ≤ c
    through a b c le more = omega arith

    itself : (a : ℕ) → a ≤ a
    itself a = omega arith

    by : word_at fs (n + m) ≡ word_of t m → (k : ℕ) → k < n → (b : Bool) → (k == m) ≡ b → word_of t m ≤ word_at fs (n + k)
    by at k below true f =
        let here : k ≡ m = eqb-true k m f in
        subst (λ j. word_of t m ≤ word_at fs (n + j)) (sym here) (subst (λ x. word_of t m ≤ x) (sym at) (itself (word_of t m)))
    by at k below false f =
        subst (λ x. word_of t m ≤ x) (sym (leaf_kept n ws fs m (word_of t m) k h.leaves.size set (eqb-false k m f)))
        (through (word_of t m) w (word_at ws (n + k)) before (h.first.least k below))

-- a word of the time of the first, of a member after it
later_number : (w x r m k j : ℕ) → w ≤ x → x < r → r / 65536 ≤ w / 65536 → w % 65536 ≡ m → x % 65536 ≡ k → r % 65536 ≡ j
    → (m ≤ k) × (k < j)
later_number w x r m k j le lt time first next last = (omega arith, omega arith)

-- the time of the member that comes first was set, and the words above it replayed
pub replayed : (n : ℕ) (ts : List (Option ℕ)) (ws fs : List ℕ) (w r m bound : ℕ) (t : Option ℕ) → IsTournament n ts ws w
    → m < length ts → w % 65536 ≡ m → bound ≤ (w / 65536 + 1) * 65536 → length fs ≡ length ws → SetsLeaf (n + m) (word_of t m) ws fs
    → IsReplayed (n + m) bound r fs → IsTournament n (slice_set ts m t) fs r
replayed n ts ws fs w r m bound t h lt own divides len set rep =
    let leaves : HaveLeaves n (slice_set ts m t) fs = leaves_set n ts ws fs m t h.leaves lt len set in
    let d : ℕ = rep.height in
    let s : ℕ = (n + m) / 2 ^ d in
    let few = leaves.few in
    let size = leaves.size in
    let room = h.leaves.room in
    let inside : 0 < s = rep.inside in
    let spans : IsSpan n (length fs) s (2 ^ d) =
    span (length fs) n d (n + m) size leaves.power (omega arith) (omega arith) inside in
    let won : (v : ℕ) → s ≤ v → 2 * v + 1 < length fs → word_at fs v ≡ winner_below fs v = λ v le below.
    rep.tree v (omega arith) below (λ e g. (let most : s / 2 / 2 ^ e ≤ s / 2 = shr_le (s / 2) e in absurd (omega arith))) in
    let low : IsLowest d s fs = lowest fs d s inside spans.high won in
    let j : ℕ = low.one.0 in
    let at : j / 2 ^ d ≡ s = low.one.1 in
    let leaf = leaf_below n (length fs) s (2 ^ d) j (pow_pos d) spans at in
    let from : n ≤ j = leaf.0 in
    let till : j < length fs = leaf.1 in
    let k : ℕ = j - n in
    let same : n + k ≡ j = omega arith in
    let stands : word_at fs (n + k) ≡ r = ap (word_at fs) same ∙ sym low.one.2 ∙ rep.stands in
    let number : r % 65536 ≡ k =
    ap (λ x. x % 65536) (sym stands ∙ leaves.each k (omega arith))
    ∙ number_in (slice_index_or (slice_set ts m t) k None) k (omega arith) in
    record {
      leaves = leaves;
      first = record {
        within = subst (λ x. x < n) (sym number) (omega arith);
        stands = ap (λ x. word_at fs (n + x)) number ∙ stands;
        least = λ i below. first_below leaves won low k (ap (λ x. x / 2 ^ d) same ∙ at) number i below rep.ends;
      };
      tree = λ i pos below apart. rep.tree i pos below (λ e g. apart (d + (1 + e))
          (g ∙ ap (λ x. x / 2 / 2 ^ e) (sym at ∙ ap (λ x. x / 2 ^ d) (sym same ∙ ap (λ x. n + x) (sym number)))
          ∙ shr-shr ((n + r % 65536) / 2 ^ d) 1 e ∙ shr-shr (n + r % 65536) d (1 + e)));
    }
  where
    first_below : HaveLeaves n (slice_set ts m t) fs
        → ((v : ℕ) → (n + m) / 2 ^ rep.height ≤ v → 2 * v + 1 < length fs → word_at fs v ≡ winner_below fs v)
        → IsLowest rep.height ((n + m) / 2 ^ rep.height) fs → (k : ℕ)
        → (n + k) / 2 ^ rep.height ≡ (n + m) / 2 ^ rep.height → r % 65536 ≡ k → (i : ℕ) → i < n
        → ((n + m) / 2 ^ rep.height ≡ 1) ⊎ (r < bound) → r ≤ word_at fs (n + i)
    first_below leaves won low k at number i below (inl top) =
        let some = leaves.some in
        let size = leaves.size in
        subst (λ x. x ≤ word_at fs (n + i)) (sym (ap (word_at fs) top) ∙ rep.stands)
        (first_of_all fs n size (λ v pos inner. won v (subst (λ x. x ≤ v) (sym top) pos) inner) (2 * n) (n + i)
        (omega arith) (omega arith) (omega arith))
    first_below leaves won low k at number i below (inr less_than_bound) =
        by (nat_lt (word_at fs (n + i)) r) refl
      where
        outside : ((n + i) / 2 ^ rep.height ≡ (n + m) / 2 ^ rep.height → ⊥) → word_at fs (n + i) < r → n ≤ 65536 → ⊥
        outside apart less few =
            let other : i ≢ m = λ e. apart (ap (λ x. (n + x) / 2 ^ rep.height) e) in
            let kept : word_at fs (n + i) ≡ word_at ws (n + i) =
            leaf_kept n ws fs m (word_of t m) i h.leaves.size set other in
            let after : w ≤ word_at fs (n + i) = subst (λ x. w ≤ x) (sym kept) (h.first.least i below) in
            let is : word_at fs (n + i) % 65536 ≡ i =
            ap (λ x. x % 65536) (leaves.each i below) ∙ number_in (slice_index_or (slice_set ts m t) i None) i (omega arith) in
            let time : r / 65536 ≤ w / 65536 = omega arith in
            let order = later_number w (word_at fs (n + i)) r m i k after less time own is number in
            let low_order = order.0 in
            let high_order = order.1 in
            apart (between rep.height (n + m) (n + i) (n + k) ((n + m) / 2 ^ rep.height) refl at (omega arith) (omega arith))

        by : (b : Bool) → nat_lt (word_at fs (n + i)) r ≡ b → r ≤ word_at fs (n + i)
        by false e = grind (arith, nat_tests)
        by true e =
            let less : word_at fs (n + i) < r = grind (arith, nat_tests) in
            let few = leaves.few in
            absurd (outside (λ f. (
            let le : word_at fs ((n + m) / 2 ^ rep.height) ≤ word_at fs (n + i) = low.each (n + i) f in
            let is : word_at fs ((n + m) / 2 ^ rep.height) ≡ r = rep.stands in
            omega arith)) less few)

-- ---- the climb

-- a leaf is set after another was set to what it is
pub over_leaves : (ws fs : List ℕ) (first least leaf w i : ℕ) → length fs ≡ length ws → leaf < length ws → first < length ws
    → word_at ws first ≡ least → ((j : ℕ) → length ws ≤ 2 * j → word_at fs j ≡ word_at (slice_set ws first least) j)
    → length ws ≤ 2 * i → word_at (slice_set fs leaf w) i ≡ word_at (slice_set ws leaf w) i
over_leaves ws fs first least leaf w i len within inside stands set long = by (i == leaf) refl
  where
    kept : (b : Bool) → (i == first) ≡ b → word_at (slice_set ws first least) i ≡ word_at ws i
    kept true q =
        let e : i ≡ first = eqb-true i first q in
        ap (λ k. word_at (slice_set ws first least) k) e ∙ get_or-set_same ws first least 0 inside ∙ sym stands
        ∙ ap (word_at ws) (sym e)
    kept false q = get_or-set_other ws first i least 0 (eqb-false i first q)

    by : (b : Bool) → (i == leaf) ≡ b → word_at (slice_set fs leaf w) i ≡ word_at (slice_set ws leaf w) i
    by true q =
        let e : i ≡ leaf = eqb-true i leaf q in
        ap (λ k. word_at (slice_set fs leaf w) k) e ∙ get_or-set_same fs leaf w 0 (omega arith)
        ∙ sym (get_or-set_same ws leaf w 0 within) ∙ ap (λ k. word_at (slice_set ws leaf w) k) (sym e)
    by false q =
        let ne : i ≢ leaf = eqb-false i leaf q in
        get_or-set_other fs leaf i w 0 ne ∙ set i long ∙ kept (i == first) refl ∙ sym (get_or-set_other ws leaf i w 0 ne)

-- the least power of two that is no less than at most 65,536 is at most that
few_leaves : (n p k : ℕ) → n ≤ 65536 → p ≡ 2 ^ k → p / 2 < max 1 n → p ≤ 65536
few_leaves n p k few is lt = by (nat_lt 16 k) refl
  where
    by : (b : Bool) → nat_lt 16 k ≡ b → p ≤ 65536
    by true e =
        let more : 17 ≤ k = grind (arith, nat_tests) in
        let far : 2 ^ 17 ≤ 2 ^ k = pow-le-pow_right {n = 2} (omega arith) {i = 17} {j = k} more in
        absurd (omega arith)
    by false e =
        let most : k ≤ 16 = grind (arith, nat_tests) in
        let near : 2 ^ k ≤ 2 ^ 16 = pow-le-pow_right {n = 2} (omega arith) {i = k} {j = 16} most in
        omega arith

-- so the leaves stand where they are so many
pub few_numbers : (n p : ℕ) → ((k : ℕ) × (p ≡ 2 ^ k)) → n ≤ 65536 → p / 2 < max 1 n → p ≤ 65536
few_numbers n p power few lt = few_leaves n p power.0 few power.1 lt

pub leaves_stand : (ts : List (Option ℕ)) (ws : List ℕ) (p : ℕ) → ((k : ℕ) × (p ≡ 2 ^ k)) → length ts ≤ 65536 → length ts ≤ p
    → p / 2 < max 1 (length ts) → length ws ≡ 2 * p
    → ((m : ℕ) → m < p → word_at ws (p + m) ≡ word_of (slice_index_or ts m None) m) → HaveLeaves (length ws / 2) ts ws
leaves_stand ts ws p power few room lt size each =
    let k : ℕ = power.0 in
    let is : p ≡ 2 ^ k = power.1 in
    let some : 0 < 2 ^ k = pow_pos k in
    let most : p ≤ 65536 = few_leaves (length ts) p k few is lt in
    let half : p ≡ length ws / 2 = omega arith in
    let whole : 2 ^ suc k ≡ length ws = pow-suc 2 k ∙ (let turned : 2 ^ k * 2 ≡ length ws = omega arith in turned) in
    let here : HaveLeaves p ts ws = record {
      size = size;
      power = subst IsPower whole (power_is_power (suc k));
      some = omega arith;
      few = most;
      room = room;
      each = each;
    } in
    subst (λ n. HaveLeaves n ts ws) half here

-- what a vector has when a slice of all its items is written back to it
abbrev pub written : ℕ → List ℕ → List ℕ → List ℕ
written len old new = take len (new ++ drop (length new) old)

pub written_back : (len : ℕ) (old new : List ℕ) → len ≡ length old → length new ≡ length old → new ≡ written len old new
written_back len old new all long = sym (ap (λ k. written k old new) (all ∙ sym long) ∙ take-append_seam new (drop (length new) old))

-- the second is the other of the two words below one
abbrev IsSibling : ℕ → ℕ → Type 0
IsSibling x y = ((x ≡ 2 * (x / 2)) × (y ≡ 2 * (x / 2) + 1)) ⊎ ((x ≡ 2 * (x / 2) + 1) × (y ≡ 2 * (x / 2)))

sibling : (x : ℕ) → IsSibling x (bit_xor x 1)
sibling x = by (halves x) (xor_add_and x 1) (and_mask x 1)
  where
    by : (x ≡ 2 * (x / 2)) ⊎ (x ≡ 2 * (x / 2) + 1) → bit_xor x 1 + bit_and x 1 * 2 ≡ x + 1 → bit_and x 1 ≡ x % 2
        → IsSibling x (bit_xor x 1)
    by (inl e) sum low = inl (e, omega arith)
    by (inr e) sum low = inr (e, omega arith)

-- where a word stands at x, the lesser of it and its sibling is that of the two below the word above
pub winner_above : (ws : List ℕ) (x w : ℕ) → word_at ws x ≡ w → min w (word_at ws (bit_xor x 1)) ≡ winner_below ws (x / 2)
winner_above ws x w at = by (bit_xor x 1) (sibling x)
  where
    turned : (a b : ℕ) → min a b ≡ min b a
    turned a b = omega arith

    by : (y : ℕ) → IsSibling x y → min w (word_at ws y) ≡ winner_below ws (x / 2)
    by y (inl h) =
        ap (λ v. min v (word_at ws y)) (sym at) ∙ ap (λ i. min (word_at ws i) (word_at ws y)) h.0
        ∙ ap (λ i. min (word_at ws (2 * (x / 2))) (word_at ws i)) h.1
    by y (inr h) =
        ap (λ v. min v (word_at ws y)) (sym at) ∙ turned (word_at ws x) (word_at ws y)
        ∙ ap (λ i. min (word_at ws i) (word_at ws x)) h.1 ∙ ap (λ i. min (word_at ws (2 * (x / 2))) (word_at ws i)) h.0

-- after a word was set, those that were the lesser of the two below them are so still, but for the one above it
pub node_set : (ws : List ℕ) (x i w : ℕ) → x < length ws → 0 < i → i ≢ x / 2
    → (i ≢ x → word_at ws i ≡ winner_below ws i) → (i ≡ x → w ≡ winner_below ws x)
    → word_at (slice_set ws x w) i ≡ winner_below (slice_set ws x w) i
node_set ws x i w within pos apart others here = grind (arith, get_or-set_other, get_or-set_same)
