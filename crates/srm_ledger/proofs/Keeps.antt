-- Each step of a seat keeps the rule of the ledger.
use Rattle.std.proofs.Common.{◌≡◌, ◌≢◌, ℕ, ◌+◌, ◌*◌, ◌/◌, ◌%◌, ◌^◌, ◌<◌, ◌≤◌, List, length, replicate}
use Rattle.std.proofs.Common.{slice_index, set, sym, refl, ap, ◌∙◌, subst, ⊎_elim, arith, length-set}
use Rattle.std.proofs.Math.Nat.{mod-eq_of_lt}
use Rattle.std.proofs.lemmas.List.{get_or-set_same, get_or-set_other, get_or-replicate, get_or_past, length-replicate, set-get_or}
use Rattle.std.proofs.lemmas.Grind.{get_or_default_zero}
use mathlib.Core.Logic.{dite}
use mathlib.Core.Option.{none, some}
use native.Mathlib.Decide.{ℕ_discrete, dec_lt}
use lib.ListN.{get_elem?}
use Rattle.atomic_table.specs.Table.{State, keeps, step, Allows, Splits, Joins, Final, Seen}
use Rattle.atomic_table.proofs.Lists.{at_set, at_snoc, at_index}
use Rattle.srm_ledger.proofs.Zips.{added_at, larger_at}
use Rattle.srm_ledger.proofs.SumsOver.{total_set, total_part, total_most, total_split, total_join, halves_joined}
use Rattle.srm_ledger.specs.declared.rule.Holding.{Holding}
use Rattle.srm_ledger.specs.Weights.{total}
use Rattle.srm_ledger.specs.Tally.{spent, weight_of, share_at, seen_at, SeatOk, Tallied, Finds, grew, saw, adds, reads, first_half}
use Rattle.srm_ledger.specs.Tally.{second_half, joined_holding, AllFit, AreWords}

-- an empty seat adds nothing
at_most : (words : List ℕ) (v : Holding) (k : ℕ) → SeatOk words v → share_at k v ≤ v.weight * (2 ^ 47)
at_most words v k ok = grind arith

pub word_most : {S : Type 0} (n : ℕ) (s : State S Holding) (k : ℕ) → Tallied n s → slice_index s.words k ≤ 2 ^ 63
word_most n s k h = let m = total_most (share_at k) weight_of s.views (2 ^ 47) (λ j v e. at_most s.words v k (h.seats j v e)) in
    let w = h.whole in let is = h.summed k in
    let t : total weight_of s.views * (2 ^ 47) ≡ 65536 * (2 ^ 47) = ap (λ (x : ℕ). x * (2 ^ 47)) w in omega arith

grows : (words : List ℕ) (i x : ℕ) → slice_index words i ≤ x → i < length words → (k : ℕ)
    → slice_index words k ≤ slice_index (set words i x) k
grows words i x le lt k = grind (arith, get_or-set_same, get_or-set_other)

-- a step that adds d to the word i and to the seat's share of it
pub step_keeps : {S : Type 0} (n id i x d : ℕ) (v w : Holding) (s : State S Holding) (hs : List (mathlib.Core.Option.Option S))
    → Tallied n s → get_elem? s.views id ≡ some v
    → i < n → x ≡ slice_index s.words i + d → (i ≡ 0 → d ≡ 0) → w.weight ≡ v.weight → 1 ≤ v.weight
    → share_at i w ≡ share_at i v + d → ((k : ℕ) → k ≢ i → share_at k w ≡ share_at k v) → ((k : ℕ) → share_at k w ≤ 2 ^ 47)
    → ((k : ℕ) → slice_index w.seen k ≤ slice_index (set s.words i x) k)
    → Tallied n record { words = set s.words i x; homes = hs; views = set s.views id w }
step_keeps n id i x d v w s hs h at below is spare weigh alive here else most known =
    let lt : i < length s.words = let e = h.wide in omega arith in
    let more = grows s.words i x (omega arith) lt in
    record {
      wide = length-set s.words i x ∙ h.wide;
      whole = (let t = total_set weight_of s.views id v w at in let e = h.whole in omega arith);
      summed = λ k. let t = total_set (share_at k) s.views id v w at in let e = h.summed k in
          dite (ℕ_discrete k i)
          (λ same. let P : ℕ → Type 0 = λ j. slice_index (set s.words i x) j ≡ total (share_at j) (set s.views id w) in
          subst P (sym same) (let t' = total_set (share_at i) s.views id v w at in let e' = h.summed i in let r =
          get_or-set_same s.words i x 0 lt in omega arith))
          (λ not. let r = get_or-set_other s.words i k x 0 not in let q = else k not in omega arith);
      spare = dite (ℕ_discrete 0 i)
          (λ same. let P : ℕ → Type 0 = λ j. slice_index (set s.words i x) j ≡ 0 in
          subst P (sym same) (let r = get_or-set_same s.words i x 0 lt in let z = spare (sym same) in
          let o : slice_index s.words i ≡ 0 = ap (slice_index s.words) (sym same) ∙ h.spare in omega arith))
          (λ not. get_or-set_other s.words i 0 x 0 not ∙ h.spare);
      seats = λ j u e. ⊎_elim
          (λ (t : (j ≡ id) × (w ≡ u)). subst (SeatOk (set s.words i x)) t.1 record
          { spent_is = λ z. absurd (omega arith); capped = most; known = known })
          (λ (t : (j ≢ id) × (get_elem? s.views j ≡ some u)). let ok = h.seats j u t.1 in
          record { spent_is = ok.spent_is; capped = ok.capped; known = λ k. let a = ok.known k in let b = more k in omega arith })
          (at_set s.views id j w u e);
    }

pub add_allowed : {S : Type 0} (n slots id i d : ℕ) (v : Holding) (c : List (ℕ × S)) → 0 < i → i < n → i < length v.shares
    → share_at i v + d ≤ 2 ^ 47 → 1 ≤ v.weight
    → ((k : ℕ) → share_at k v ≤ 2 ^ 47)
    → Allows (Tallied n) slots id (v, c) i (λ x. (x + d) % 2 ^ 64) (adds (step slots i d 0 none) (v, c))
add_allowed n slots id i d v c pos below long room alive most s h _ at _ =
    let x : ℕ = slice_index s.words i in
    let m = word_most n s i h in
    let is : (x + d) % 2 ^ 64 ≡ x + d = mod-eq_of_lt (omega arith) in
    let here = get_or-set_same v.shares i (share_at i v + d) 0 long in
    let else : (k : ℕ) → k ≢ i → share_at k (grew v i d) ≡ share_at k v = λ k no. get_or-set_other v.shares i k (share_at i v + d) 0 no in (
      grew v i d,
      keeps,
      tt,
      step_keeps n id i ((x + d) % 2 ^ 64) d v (grew v i d) s s.homes h at below is (λ z. absurd (omega arith)) refl alive here else
          (λ k. dite (ℕ_discrete k i)
          (λ e. let P : ℕ → Type 0 = λ j. share_at j (grew v i d) ≤ 2 ^ 47 in subst P (sym e) (omega arith))
          (λ no. let q = else k no in let a = most k in omega arith))
          (λ k. let a = (h.seats id v at).known k in let lt : i < length s.words = (let e = h.wide in omega arith) in
          let b = grows s.words i ((x + d) % 2 ^ 64) (omega arith) lt k in omega arith),
      refl,
    )

-- the whole seat's shares are the words
pub whole_words : {S : Type 0} (n : ℕ) (s : State S Holding) (id : ℕ) (v : Holding) → Tallied n s → get_elem? s.views id ≡ some v → v.weight
    ≡ 65536 → (k : ℕ) → slice_index s.words k ≡ share_at k v
whole_words n s id v h at whole k =
    let z = total_set weight_of s.views id v spent at in
    let none_left : total weight_of (set s.views id spent) ≡ 0 = (let e = h.whole in omega arith) in
    let rest = total_set (share_at k) s.views id v spent at in
    let m = total_most (share_at k) weight_of (set s.views id spent) (2 ^ 47) (λ j u e. ⊎_elim
    (λ (t : (j ≡ id) × (spent ≡ u)). subst (λ (y : Holding). share_at k y ≤ weight_of y * (2 ^ 47)) t.1 (omega arith))
    (λ (t : (j ≢ id) × (get_elem? s.views j ≡ some u)). at_most s.words u k (h.seats j u t.1))
    (at_set s.views id j spent u e)) in
    let m' : total weight_of (set s.views id spent) * (2 ^ 47) ≡ 0 = ap (λ (x : ℕ). x * (2 ^ 47)) none_left in
    let e = h.summed k in omega arith

pub read_allowed : {S : Type 0} (n slots id i : ℕ) (v : Holding) (c : List (ℕ × S)) → i < n → i < length v.seen → 1 ≤ v.weight
    → Allows (Tallied n) slots id (v, c) i (λ x. x) (reads (step slots i 0 0 none) (v, c))
read_allowed n slots id i v c below long alive s h _ at _ =
    let x : ℕ = slice_index s.words i in
    let ok = h.seats id v at in
    let lt : i < length s.words = (let e = h.wide in omega arith) in
    let mine : share_at i v ≤ x = (let t = total_part (share_at i) s.views id v at in let e = h.summed i in omega arith) in (
      saw v i x,
      keeps,
      tt,
      step_keeps n id i x 0 v (saw v i x) s s.homes h at below (omega arith) (λ _. refl) refl alive (omega arith) (λ k _. refl) ok.capped
          (λ k. dite (ℕ_discrete k i)
          (λ e. let P : ℕ → Type 0 = λ j. slice_index (set v.seen i x) j ≤ slice_index (set s.words i x) j in
          subst P (sym e) (let a = get_or-set_same v.seen i x 0 long in let b = get_or-set_same s.words i x 0 lt in omega arith))
          (λ no. let a = get_or-set_other v.seen i k x 0 no in let b = get_or-set_other s.words i k x 0 no in let o = ok.known k in
          omega arith)),
      (
        refl,
        record {
          own = mine;
          before = ok.known i;
          whole = λ all. whole_words n s id v h at all i;
          spare = λ z. ap (slice_index s.words) z ∙ h.spare;
          part = (let t = total_part weight_of s.views id v at in let e = h.whole in omega arith);
        },
      ),
    )

-- a read of the spare word changes nothing
pub spare_saw : (v : Holding) (x : ℕ) → Finds v 0 x → saw v 0 x ≡ v
spare_saw v x f =
    let is : x ≡ slice_index v.seen 0 = (let z = f.spare refl in let b = f.before in omega arith) in
    λ i. record { weight = v.weight; shares = v.shares; seen = (ap (set v.seen 0) is ∙ set-get_or v.seen 0 0) i }

pub replicate_zero : (n k : ℕ) → slice_index (replicate n 0) k ≡ 0
replicate_zero n k = dite (dec_lt k n) (λ lt. get_or-replicate n k 0 0 lt)
    (λ no. let l = length-replicate n (let z : ℕ = 0 in z) in get_or_past (replicate n 0) k 0 (omega arith))

pub split_allowed : {S : Type 0} (n id : ℕ) (v : Holding) → 2 ≤ v.weight → Splits (Tallied {S = S} n) id v (first_half v) (second_half v)
split_allowed n id v two s h at =
    let l = first_half v in
    let r = second_half v in
    let zero_at : (k : ℕ) → share_at k r ≡ 0 = λ k. replicate_zero (length v.shares) k in
    let halves : v.weight / 2 * 2 ≤ v.weight = omega arith in
    let up : 1 ≤ v.weight / 2 = omega arith in
    let ok = h.seats id v at in
    record {
      wide = h.wide;
      whole = total_split weight_of s.views id v l r at (halves_joined v.weight) ∙ h.whole;
      summed = λ k. let z = zero_at k in h.summed k ∙ sym (total_split (share_at k) s.views id v l r at (omega arith));
      spare = h.spare;
      seats = λ j u e. ⊎_elim
          (λ x. ⊎_elim
          (λ (t : (j ≡ id) × (l ≡ u)). subst (SeatOk s.words) t.1 record
          { spent_is = λ z. absurd (omega arith); capped = ok.capped; known = ok.known })
          (λ (t : (j ≢ id) × (get_elem? s.views j ≡ some u)). h.seats j u t.1)
          (at_set s.views id j l u x))
          (λ (is : r ≡ u). subst (SeatOk s.words) is record {
            spent_is = λ z. absurd (omega arith);
            capped = λ k. let z = zero_at k in
                omega arith;
            known = ok.known;
          })
          (at_snoc (set s.views id l) r u j e);
    }

pub join_allowed : {S : Type 0} (n id : ℕ) (v : Holding) (other : ℕ) (w : Holding) → 1 ≤ v.weight → AllFit v.shares w.shares
    → Joins (Tallied {S = S} n) id v other w (joined_holding v w) spent
join_allowed n id v other w alive fit s h at two at' =
    let b = joined_holding v w in
    let vs = set s.views id b in
    let was : get_elem? s.views other ≡ some w = ⊎_elim (λ (t : (other ≡ id) × (b ≡ w)). absurd (two t.0))
    (λ (t : (other ≢ id) × (get_elem? s.views other ≡ some w)). t.1) (at_set s.views id other b w at') in
    let ok = h.seats id v at in
    let ok' = h.seats other w was in
    record {
      wide = h.wide;
      whole = total_join weight_of s.views id other v w b spent at at' (omega arith) ∙ h.whole;
      summed = λ k. let m = added_at v.shares w.shares k in
          h.summed k ∙ sym (total_join (share_at k) s.views id other v w b spent at at' (omega arith));
      spare = h.spare;
      seats = λ j u e. ⊎_elim
          (λ (t : (j ≡ other) × (spent ≡ u)). subst (SeatOk s.words) t.1
          record { spent_is = λ z. refl; capped = λ k. omega arith; known = λ k. omega arith })
          (λ (t : (j ≢ other) × (get_elem? vs j ≡ some u)). ⊎_elim
          (λ (q : (j ≡ id) × (b ≡ u)). subst (SeatOk s.words) q.1 record {
            spent_is = λ z. absurd (omega arith);
            capped = λ k. let m = added_at v.shares w.shares k in let f = fit k in omega arith;
            known = λ k. let m = larger_at v.seen w.seen k in let x = ok.known k in let y = ok'.known k in omega arith;
          })
          (λ (q : (j ≢ id) × (get_elem? s.views j ≡ some u)). h.seats j u q.1)
          (at_set s.views id j b u t.1))
          (at_set vs other j spent u e);
    }

pub closed_words : {S : Type 0} (n id : ℕ) (v : Holding) (ws : List ℕ) (xs : List S) → length v.shares ≡ n → v.weight ≡ 65536
    → Final (Seen (Tallied n) id v) ws xs
    → AreWords ws v.shares
closed_words n id v ws xs long whole f k lt =
    let s = f.0 in
    let h = f.1.0 in
    let is = whole_words n s id v h f.1.1 whole k in
    subst (λ (l : List ℕ). get_elem? l k ≡ some (slice_index v.shares k))
    f.2 ((let far : k < length s.words = (let e = h.wide in omega arith) in
    at_index s.words k (slice_index v.shares k) far (sym (get_or_default_zero s.words k (slice_index v.shares k) far ∙ is))))

-- what the whole seat read is not above its shares
pub closed_reads : {S : Type 0} (n id : ℕ) (v : Holding) (ws : List ℕ) (xs : List S) → v.weight ≡ 65536
    → Final (Seen (Tallied n) id v) ws xs
    → (k : ℕ) → seen_at k v ≤ share_at k v
closed_reads n id v ws xs whole f k =
    let s = f.0 in
    let h = f.1.0 in
    let is = whole_words n s id v h f.1.1 whole k in
    let read = (h.seats id v f.1.1).known k in
    omega arith
