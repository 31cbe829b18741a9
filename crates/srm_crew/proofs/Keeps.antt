-- Each step of a pass keeps the rule of the bag.
use Rattle.std.proofs.Common.{◌≡◌, ◌≢◌, ℕ, zero, suc, ◌+◌, ◌<◌, ◌≤◌, ◌⊎◌, List, [], ◌∷◌, ◌++◌, length, slice_get, Some, set, sym}
use Rattle.std.proofs.Common.{refl, ap, ◌∙◌, subst, ⊎_elim, inl, inr, arith, eq-eqb, ne_eqb, lt_of_not-le}
use Rattle.std.proofs.lemmas.List.{length-append}
use mathlib.Core.Logic.{dite}
use mathlib.Core.Option.{some, some-injective, some-ne-none}
use native.Mathlib.Decide.{ℕ_discrete, dec_le}
use lib.ListN.{get_elem?}
use Rattle.atomic_table.proofs.Lists.{at_set, at_snoc, set_else}
use Rattle.crossbeam_queue.specs.Fifo.{Pushes, Pops, Forks, Merges, Learns}
use Rattle.srm_crew.specs.declared.rule.Hold.{Hold}
use Rattle.srm_crew.specs.declared.rule.Spot.{Spot}
use Rattle.srm_ledger.proofs.SumsOver.{total_set, total_part, total_none, total_split, total_join, halves_joined}
use Rattle.srm_crew.specs.Indices.{hold_of, spent_hold, times, AllBelow, hold_weight, count_of, times_of, PassOk, Kept}
use Rattle.srm_crew.specs.Indices.{puts, takes_spot, short}
use Rattle.srm_crew.specs.Indices.{rests, fits, first_hold, second_hold, both_holds}

pub times_append : (p : ℕ) (xs ys : List ℕ) → times p (xs ++ ys) ≡ times p xs + times p ys
times_append p [] ys = omega arith
times_append p (x ∷ xs) ys = let r = times_append p xs ys in omega arith

times_same : (p : ℕ) → times p (p ∷ []) ≡ 1
times_same p = rw (eq-eqb p p refl) refl

times_other : (p q : ℕ) → p ≢ q → times p (q ∷ []) ≡ 0
times_other p q apart = rw (ne_eqb p q apart) refl

all_below_more : (ps : List ℕ) (m n : ℕ) → AllBelow ps m → m ≤ n → AllBelow ps n
all_below_more ps m n h le k lt = let a = h k lt in omega arith

all_below_append : (ps qs : List ℕ) (n : ℕ) → AllBelow ps n → AllBelow qs n → AllBelow (ps ++ qs) n
all_below_append [] qs n a b k lt = b k lt
all_below_append (p ∷ ps) qs n a b zero lt = a zero (omega arith)
all_below_append (p ∷ ps) qs n a b (suc k) lt = all_below_append ps qs n (λ j l. a (suc j) (omega arith)) b k (omega arith)

one_below : (q n : ℕ) → q < n → AllBelow (q ∷ []) n
one_below q n lt zero far = lt
one_below q n lt (suc k) far = absurd (omega arith)

module _ {A : Type 0} where
  get_longer : (l m : List A) (i : ℕ) (a : A) → slice_get l i ≡ Some a → slice_get (l ++ m) i ≡ Some a
  get_longer [] m i a e = cc
  get_longer (x ∷ xs) m zero a e = e
  get_longer (x ∷ xs) m (suc i) a e = get_longer xs m i a e

  get_last : (l : List A) (a : A) → slice_get (l ++ a ∷ []) (length l) ≡ Some a
  get_last [] a = refl
  get_last (x ∷ xs) a = get_last xs a

  last_or_before : (l : List A) (a : A) (j : ℕ) (b : A) → get_elem? (l ++ a ∷ []) j ≡ some b → (get_elem? l j ≡ some b)
      ⊎ ((j ≡ length l) × (a ≡ b))
  last_or_before [] a zero b e = inr (refl, some-injective a b e)
  last_or_before [] a (suc j) b e = absurd (some-ne-none b (sym e))
  last_or_before (x ∷ xs) a zero b e = inl e
  last_or_before (x ∷ xs) a (suc j) b e = ⊎_elim (λ o. inl o) (λ (t : (j ≡ length xs) × (a ≡ b)). inr (ap suc t.0, t.1))
      (last_or_before xs a j b e)

module _ {T : Type 0} where
  pub takes_keep : (id : ℕ) (v : Hold T) → 1 ≤ v.weight → Pops (Kept {T = T}) id v (takes_spot v)
  takes_keep id v alive x items views h at =
      let ok = h.passes id v at in
      let here = h.queued 0 x refl in
      let q : x.index ≡ h.popped = omega arith in
      let k : v.put ≡ h.put = ok.knows alive in
      let w = hold_of v.weight v.put (v.taken ++ x.index ∷ []) in
      let vs = set views id w in
      let few = total_part count_of views id v at in
      let much = h.counted in
      let b = h.behind in
      let longer = length-append v.taken (x.index ∷ []) in (
        w,
        record {
          put = h.put;
          popped = h.popped + 1;
          behind = omega arith;
          queued = λ j y e. let g = h.queued (suc j) y e in
              (omega arith, let same : h.popped + suc j ≡ h.popped + 1 + j = omega arith in ap (slice_get h.put) (sym same) ∙ g.1);
          whole = (let t = total_set hold_weight views id v w at in let e = h.whole in omega arith);
          counted = (let t = total_set count_of views id v w at in omega arith);
          once = λ p lt. let t = total_set (times_of p) views id v w at in let a = times_append p v.taken (x.index ∷ []) in
              dite (ℕ_discrete p h.popped)
              (λ e. let o = times_same x.index in let P : ℕ → Type 0 = λ r. times r (x.index ∷ []) ≡ 1 in let o' : times p (x.index ∷ [])
              ≡ 1 = subst P (q ∙ sym e) o in let z = h.never p (omega arith) in omega arith)
              (λ no. let o = times_other p x.index (λ r. no (r ∙ q)) in let z = h.once p (omega arith) in omega arith);
          never = λ p le. let t = total_set (times_of p) views id v w at in let a = times_append p v.taken (x.index ∷ []) in let o =
              times_other p x.index (λ r. absurd (omega arith)) in let z = h.never p (omega arith) in omega arith;
          passes = λ j u e. ⊎_elim
              (λ (t : (j ≡ id) × (w ≡ u)). subst (PassOk h.put (h.popped + 1)) t.1 record {
                spent_is = λ z. absurd (omega arith);
                knows = λ _. k;
                below = all_below_append v.taken (x.index ∷ []) (h.popped + 1)
                    (all_below_more v.taken h.popped (h.popped + 1) ok.below (omega arith))
                    (one_below x.index (h.popped + 1) (omega arith));
              })
              (λ (t : (j ≢ id) × (get_elem? views j ≡ some u)). let o = h.passes j u t.1 in
              record {
                spent_is = o.spent_is;
                knows = o.knows;
                below =
                    all_below_more u.taken h.popped (h.popped + 1) o.below (omega arith);
              })
              (at_set views id j w u e);
        },
        (
          refl,
          (let same : h.popped + 0 ≡ x.index = omega arith in ap (λ (l : List T). slice_get l x.index) k ∙ ap (slice_get h.put) (sym same)
              ∙ here.1),
          all_below_more v.taken h.popped x.index ok.below (omega arith),
          (let l : length v.put ≡ length h.put = ap length k in omega arith),
          (
            (λ p. let a = times_append p v.taken (x.index ∷ []) in let own = total_part (times_of p) views id v at in
                dite (ℕ_discrete p x.index)
                (λ e. let z = h.never p (omega arith) in let P : ℕ → Type 0 = λ r. times r (x.index ∷ [])
                ≡ 1 in let o : times p (x.index ∷ []) ≡ 1 = subst P (sym e) (times_same x.index) in omega arith)
                (λ no. let o = times_other p x.index no in
                dite (dec_le h.popped p) (λ far. let z = h.never p far in omega arith)
                (λ near. let z = h.once p (lt_of_not-le near) in omega arith))),
            (λ p far. let l : length v.put ≡ length h.put = ap length k in let a = times_append p v.taken (x.index ∷ []) in let own =
                total_part (times_of p) views id v at in
                let o = times_other p x.index (λ r. absurd (omega arith)) in let z = h.never p (omega arith) in omega arith),
          ),
        ),
      )

  -- beside the whole pass all others are spent
  pub others_spent : (items : List (Spot T)) (views : List (Hold T)) (id : ℕ) (v : Hold T) (h : Kept items views) → get_elem? views id
      ≡ some v → v.weight ≡ 65536
      → (j : ℕ) (u : Hold T) → j ≢ id → get_elem? views j ≡ some u → u ≡ spent_hold
  others_spent items views id v h at heavy j u apart e =
      let s : Hold T = spent_hold in
      let t = total_set hold_weight views id v s at in
      let there : get_elem? (set views id s) j ≡ some u = set_else views id j s apart ∙ e in
      let few = total_part hold_weight (set views id s) j u there in
      let w = h.whole in
      (h.passes j u e).spent_is (omega arith)

  pub puts_keep : (n id : ℕ) (v : Hold T) (x : Spot T) → v.weight ≡ 65536
      → x.index ≡ length v.put → Pushes (Kept {T = T}) n id v x (puts v x)
  puts_keep n id v x heavy q items views _ h at =
      let ok = h.passes id v at in
      let k : v.put ≡ h.put = ok.knows (omega arith) in
      let long : length v.put ≡ length h.put = ap length k in
      let put : List T = h.put ++ x.item ∷ [] in
      let w = hold_of v.weight (v.put ++ x.item ∷ []) v.taken in
      let b = h.behind in
      let l1 = length-append items (x ∷ []) in
      let l2 = length-append h.put (x.item ∷ []) in (
        w,
        record {
          put = put;
          popped = h.popped;
          behind = omega arith;
          queued = λ j y e. ⊎_elim
              (λ old. let g = h.queued j y old in (g.0, get_longer h.put (x.item ∷ []) (h.popped + j) y.item g.1))
              (λ (new : (j ≡ length items) × (x ≡ y)). let same : h.popped + j ≡ length h.put = (let e' = new.0 in omega arith) in (
                sym (ap (λ (s : Spot T). s.index) new.1) ∙ q ∙ long ∙ sym same,
                ap (slice_get put) same ∙ get_last h.put x.item
                    ∙ ap (λ (s : Spot T). Some s.item) new.1,
              ))
              (last_or_before items x j y e);
          whole = (let t = total_set hold_weight views id v w at in let e = h.whole in omega arith);
          counted = (let t = total_set count_of views id v w at in let e = h.counted in omega arith);
          once = λ p lt. let t = total_set (times_of p) views id v w at in let e = h.once p lt in omega arith;
          never = λ p le. let t = total_set (times_of p) views id v w at in let e = h.never p le in omega arith;
          passes = λ j u e. ⊎_elim
              (λ (t : (j ≡ id) × (w ≡ u)). subst (PassOk put h.popped) t.1
              record { spent_is = λ z. absurd (omega arith); knows = λ _. ap (λ (l : List T). l ++ x.item ∷ []) k; below = ok.below })
              (λ (t : (j ≢ id) × (get_elem? views j ≡ some u)). subst (PassOk put h.popped)
              (sym (others_spent items views id v h at heavy j u t.0 t.1))
              record { spent_is = λ _. refl; knows = λ z. absurd (omega arith); below = λ i z. absurd (omega arith) })
              (at_set views id j w u e);
        },
        refl,
      )

  pub short_learned : (id : ℕ) (v : Hold T) → 1 ≤ v.weight → Learns (Kept {T = T}) id v (short v)
  short_learned id v alive items views h at = let k = (h.passes id v at).knows alive in let l : length v.put ≡ length h.put = ap length k in
      let b = h.behind in omega arith

  pub fits_learned : (id : ℕ) (v : Hold T) → 1 ≤ v.weight → Learns (Kept {T = T}) id v (fits v)
  fits_learned id v alive items views h at =
      let k = (h.passes id v at).knows alive in
      let l : length v.put ≡ length h.put = ap length k in
      let b = h.behind in
      let w = total_part hold_weight views id v at in
      let t = total_part count_of views id v at in
      let e = h.whole in
      let c = h.counted in (
        omega arith,
        omega arith,
        (
          (λ p. let own = total_part (times_of p) views id v at in
              dite (dec_le h.popped p) (λ far. let z = h.never p far in omega arith)
              (λ near. let o = h.once p (lt_of_not-le near) in omega arith)),
          (λ p far. let own = total_part (times_of p) views id v at in let z = h.never p (omega arith) in omega arith),
        ),
      )

  pub rests_learned : (id : ℕ) (v : Hold T) → Learns (Kept {T = T}) id v (rests v)
  rests_learned id v items views h at heavy =
      let k = (h.passes id v at).knows (omega arith) in
      let l : length v.put ≡ length h.put = ap length k in
      let b = h.behind in
      let s : Hold T = spent_hold in
      let vs = set views id s in
      let gone : (j : ℕ) (u : Hold T) → get_elem? vs j ≡ some u → u ≡ s = λ j u e. ⊎_elim
      (λ (t : (j ≡ id) × (s ≡ u)). sym t.1)
      (λ (t : (j ≢ id) × (get_elem? views j ≡ some u)). others_spent items views id v h at heavy j u t.0 t.1)
      (at_set views id j s u e) in
      let c = total_set count_of views id v s at in
      let c' = total_none count_of vs (λ j u e. ap count_of (gone j u e)) in
      let e = h.counted in (
        omega arith,
        λ none. let all : h.popped ≡ length v.put = omega arith in (
          (λ p lt. let t = total_set (times_of p) views id v s at in let t' =
              total_none (times_of p) vs (λ j u e. ap (times_of p) (gone j u e)) in let o = h.once p (omega arith) in omega arith),
          (λ p le. let t = total_set (times_of p) views id v s at in let t' =
              total_none (times_of p) vs (λ j u e. ap (times_of p) (gone j u e)) in let o = h.never p (omega arith) in omega arith),
        ),
      )

  pub split_keeps : (id : ℕ) (v : Hold T) → 2 ≤ v.weight → Forks (Kept {T = T}) id v (first_hold v) (second_hold v)
  split_keeps id v two items views h at =
      let l = first_hold v in
      let r = second_hold v in
      let ok = h.passes id v at in
      record {
        put = h.put;
        popped = h.popped;
        behind = h.behind;
        queued = h.queued;
        whole = total_split hold_weight views id v l r at (halves_joined v.weight) ∙ h.whole;
        counted = total_split count_of views id v l r at (omega arith) ∙ h.counted;
        once = λ p lt. total_split (times_of p) views id v l r at (omega arith) ∙ h.once p lt;
        never = λ p le. total_split (times_of p) views id v l r at (omega arith) ∙ h.never p le;
        passes = λ j u e. ⊎_elim
            (λ x. ⊎_elim
            (λ (t : (j ≡ id) × (l ≡ u)). subst (PassOk h.put h.popped) t.1
            record { spent_is = λ z. absurd (omega arith); knows = λ _. ok.knows (omega arith); below = ok.below })
            (λ (t : (j ≢ id) × (get_elem? views j ≡ some u)). h.passes j u t.1)
            (at_set views id j l u x))
            (λ (is : r ≡ u). subst (PassOk h.put h.popped) is
            record { spent_is = λ z. absurd (omega arith); knows = λ _. ok.knows (omega arith); below = λ i z. absurd (omega arith) })
            (at_snoc (set views id l) r u j e);
      }

  pub join_keeps : (id : ℕ) (v : Hold T) (other : ℕ) (w : Hold T) → 1 ≤ v.weight
      → Merges (Kept {T = T}) id v other w (both_holds v w) spent_hold
  join_keeps id v other w alive items views h at two at' =
      let b : Hold T = both_holds v w in
      let s : Hold T = spent_hold in
      let vs = set views id b in
      let was : get_elem? views other ≡ some w = ⊎_elim (λ (t : (other ≡ id) × (b ≡ w)). absurd (two t.0))
      (λ (t : (other ≢ id) × (get_elem? views other ≡ some w)). t.1) (at_set views id other b w at') in
      let ok = h.passes id v at in
      let ok' = h.passes other w was in
      let longer = length-append v.taken w.taken in
      record {
        put = h.put;
        popped = h.popped;
        behind = h.behind;
        queued = h.queued;
        whole = total_join hold_weight views id other v w b s at at' (omega arith) ∙ h.whole;
        counted = total_join count_of views id other v w b s at at' (omega arith) ∙ h.counted;
        once = λ p lt. let a = times_append p v.taken w.taken in
            total_join (times_of p) views id other v w b s at at' (omega arith) ∙ h.once p lt;
        never = λ p le. let a = times_append p v.taken w.taken in
            total_join (times_of p) views id other v w b s at at' (omega arith) ∙ h.never p le;
        passes = λ j u e. ⊎_elim
            (λ (t : (j ≡ other) × (s ≡ u)). subst (PassOk h.put h.popped)
            t.1 record { spent_is = λ _. refl; knows = λ z. absurd (omega arith); below = λ i z. absurd (omega arith) })
            (λ (t : (j ≢ other) × (get_elem? vs j ≡ some u)). ⊎_elim
            (λ (q : (j ≡ id) × (b ≡ u)). subst (PassOk h.put h.popped) q.1
            record {
              spent_is = λ z. absurd (omega arith);
              knows = λ _. ok.knows alive;
              below =
                  all_below_append v.taken w.taken h.popped ok.below ok'.below;
            })
            (λ (q : (j ≢ id) × (get_elem? views j ≡ some u)). h.passes j u q.1)
            (at_set views id j b u t.1))
            (at_set vs other j s u e);
      }
