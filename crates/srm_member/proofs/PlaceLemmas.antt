-- Entries whose keys rise: what stands at a key's place, and what an entry put there makes of them.
use Rattle.std.proofs.Common.{◌≡◌, ℕ, zero, suc, ◌<◌, ◌≤◌, ◌-◌, Bool, true, false, cond, T, List, [], ◌∷◌, ◌++◌, length, refl, sym, ap}
use Rattle.std.proofs.Common.{◌∙◌, subst}
use Rattle.std.proofs.Common.{arith, Ordering, Less, Equal, Greater, Some, None, slice_set, slice_index_or, insert, is_lt}
use Rattle.std.specs.Ordering.{eq_by_cmp, is_eq, ordering_reverse}
use Rattle.std.specs.Cmp.{IsTotalOrder}
use Rattle.std.specs.FinMap.Entries.{put, find, is_sorted, below_all, by_order}
use Rattle.std.specs.List.Sorted.{IsPartitionedBy}
use Rattle.srm_net.proofs.Basics.{T_first, T_second, T_less, is_Less, is_Equal}
use Rattle.srm_member.specs.Places.{is_before, IsPlaceOf, is_at}

module _ {K V : Type 0} (cmp : K → K → Ordering) where
  -- whether the entry that stands at a place is the key's
  pub there : (k : K) (es : List (K × V)) (p : ℕ) (e : K × V) → p < length es → e ≡ slice_index_or es p e
      → is_at cmp k es p ≡ eq_by_cmp cmp k e.0
  there k [] p e lt h = absurd (omega arith)
  there k (x ∷ es) zero e lt h = ap (λ y. eq_by_cmp cmp k y.0) (sym h)
  there k (x ∷ es) (suc p) e lt h = there k es p e (omega arith) h

  pub none_there : (k : K) (es : List (K × V)) (p : ℕ) → length es ≤ p → is_at cmp k es p ≡ false
  none_there k [] p le = refl
  none_there k (e ∷ es) zero le = absurd (omega arith)
  none_there k (e ∷ es) (suc p) le = none_there k es p (omega arith)

module _ {K V : Type 0} (cmp : K → K → Ordering) (total : IsTotalOrder cmp) (tied : (a b : K) → cmp a b ≡ Equal → a ≡ b) where
  below_at : (x : K) (es : List (K × V)) (j : ℕ) (d : K × V) → T (below_all cmp x es) → j < length es
      → cmp x (slice_index_or es j d).0 ≡ Less
  below_at x [] j d b lt = absurd (omega arith)
  below_at x (e ∷ es) zero d b lt = T_less _ (T_first _ _ b)
  below_at x (e ∷ es) (suc j) d b lt = below_at x es j d (T_second _ _ b) (omega arith)

  -- entries that rise stand before a key's place up to there
  pub partitioned : (k : K) (es : List (K × V)) → T (is_sorted cmp es) → IsPartitionedBy (is_before cmp k) es
  partitioned k [] s i j d le lt h = absurd (omega arith)
  partitioned k (e ∷ es) s zero zero d le lt h = h
  partitioned k (e ∷ es) s zero (suc j) d le lt h =
      let under = below_at e.0 es j d (T_first _ _ s) (omega arith) in
      ap is_lt (total.trans e.0 (slice_index_or es j d).0 k under (is_Less _ h))
  partitioned k (e ∷ es) s (suc i) zero d le lt h = absurd (omega arith)
  partitioned k (e ∷ es) s (suc i) (suc j) d le lt h = partitioned k es (T_second _ _ s) i j d (omega arith) (omega arith) h

  same_at : (xs : List (K × V)) (i : ℕ) (a b : K × V) → i < length xs → slice_index_or xs i a ≡ slice_index_or xs i b
  same_at [] i a b lt = absurd (omega arith)
  same_at (x ∷ xs) zero a b lt = refl
  same_at (x ∷ xs) (suc i) a b lt = same_at xs i a b (omega arith)

  -- where the entry before a place stands before a key, and the entry there does not, that is the key's place
  pub place_between : (k : K) (es : List (K × V)) (p : ℕ) → T (is_sorted cmp es) → p ≤ length es
      → (0 < p → (d : K × V) × (is_before cmp k (slice_index_or es (p - 1) d) ≡ true))
      → (p < length es → (d : K × V) × (is_before cmp k (slice_index_or es p d) ≡ false)) → IsPlaceOf cmp k es p
  place_between k es p s le below above = (
    le,
    (
      λ j d low high. partitioned k es s j (p - 1) d (omega arith) (omega arith) (below_it d (omega arith)),
      λ j d low high. not_before (is_before cmp k (slice_index_or es j d))
          (λ h. partitioned k es s p j d (omega arith) high h) (above_it d (omega arith)),
    ),
  )
    where
      below_it : (d : K × V) → 0 < p → is_before cmp k (slice_index_or es (p - 1) d) ≡ true
      below_it d some = let b = below some in subst (λ e. is_before cmp k e ≡ true) (same_at es (p - 1) b.0 d (omega arith)) b.1

      above_it : (d : K × V) → p < length es → is_before cmp k (slice_index_or es p d) ≡ false
      above_it d some = let a = above some in subst (λ e. is_before cmp k e ≡ false) (same_at es p a.0 d (omega arith)) a.1

      not_before : {c : Bool} (b : Bool) → (b ≡ true → c ≡ true) → c ≡ false → b ≡ false
      not_before true h g = let x : true ≡ false = sym (h refl) ∙ g in cc
      not_before false h g = refl

  rises : (es : List (K × V)) (i j : ℕ) (d : K × V) → T (is_sorted cmp es) → i < j → j < length es
      → cmp (slice_index_or es i d).0 (slice_index_or es j d).0 ≡ Less
  rises [] i j d s lt le = absurd (omega arith)
  rises (e ∷ es) i zero d s lt le = absurd (omega arith)
  rises (e ∷ es) zero (suc j) d s lt le = below_at e.0 es j d (T_first _ _ s) (omega arith)
  rises (e ∷ es) (suc i) (suc j) d s lt le = rises es i j d (T_second _ _ s) (omega arith) (omega arith)

  stands_at : (k : K) (es : List (K × V)) (p : ℕ) (d : K × V) → is_at cmp k es p ≡ true
      → (p < length es) × (cmp k (slice_index_or es p d).0 ≡ Equal)
  stands_at k [] p d h = cc
  stands_at k (e ∷ es) zero d h = (omega arith, is_Equal _ h)
  stands_at k (e ∷ es) (suc p) d h = let a = stands_at k es p d h in ((let lt = a.0 in omega arith), a.1)

  -- where the entry at a place is the key's, that is the key's place
  pub place_there : (k : K) (es : List (K × V)) (p : ℕ) → T (is_sorted cmp es) → is_at cmp k es p ≡ true → IsPlaceOf cmp k es p
  place_there k [] p s h = cc
  place_there k (e ∷ es) p s h =
      let a = stands_at k (e ∷ es) p e h in
      let lt = a.0 in
      place_between k (e ∷ es) p s (omega arith)
      (λ some. (
        e,
        ap is_lt (subst (λ x. cmp (slice_index_or (e ∷ es) (p - 1) e).0 x ≡ Less) (sym (tied k _ a.1))
            (rises (e ∷ es) (p - 1) p e s (omega arith) lt)),
      ))
      (λ some. (e, ap is_lt (total.antisymm (slice_index_or (e ∷ es) p e).0 k ∙ ap ordering_reverse a.1)))

  -- a key's place, entry by entry
  Stands : K → List (K × V) → ℕ → Type 0
  Stands k [] zero = Unit {0}
  Stands k [] (suc p) = ⊥
  Stands k (e ∷ es) zero = is_before cmp k e ≡ false
  Stands k (e ∷ es) (suc p) = (is_before cmp k e ≡ true) × Stands k es p

  stands : (k : K) (es : List (K × V)) (p : ℕ) → IsPlaceOf cmp k es p → Stands k es p
  unfolding Stands
  stands k [] zero h = tt
  stands k [] (suc p) h = absurd (let le = h.0 in omega arith)
  stands k (e ∷ es) zero h = h.1.1 0 e (omega arith) (omega arith)
  stands k (e ∷ es) (suc p) h = (
    h.1.0 0 e (omega arith) (omega arith),
    stands k es p (
      (let le = h.0 in omega arith),
      (λ j d low high. h.1.0 (suc j) d (omega arith) (omega arith), λ j d low high. h.1.1 (suc j) d (omega arith) (omega arith)),
    ),
  )

  above : (k : K) (e : K × V) → is_before cmp k e ≡ true → cmp k e.0 ≡ Greater
  above k e h = total.antisymm k e.0 ∙ ap ordering_reverse (is_Less _ h)

  -- an entry that does not stand before a key's place, and is not the key's, is behind it
  behind : (k : K) (e : K × V) → is_before cmp k e ≡ false → eq_by_cmp cmp k e.0 ≡ false → cmp k e.0 ≡ Less
  behind k e h apart = grind arith

  put_new : (k : K) (v : V) (es : List (K × V)) (p : ℕ) → Stands k es p → is_at cmp k es p ≡ false
      → put cmp k v es ≡ insert es p (k, v)
  unfolding Stands
  put_new k v [] zero h a = refl
  put_new k v [] (suc p) h a = absurd h
  put_new k v (e ∷ es) zero h a = ap (λ o. by_order o ((k, v) ∷ e ∷ es) ((e.0, v) ∷ es) (e ∷ put cmp k v es)) (behind k e h a)
  put_new k v (e ∷ es) (suc p) h a =
      ap (λ o. by_order o ((k, v) ∷ e ∷ es) ((e.0, v) ∷ es) (e ∷ put cmp k v es)) (above k e h.0)
      ∙ ap (λ r. e ∷ r) (put_new k v es p h.1 a)

  put_old : (k : K) (v : V) (es : List (K × V)) (p : ℕ) → Stands k es p → is_at cmp k es p ≡ true
      → put cmp k v es ≡ slice_set es p (k, v)
  unfolding Stands
  put_old k v [] p h a = cc
  put_old k v (e ∷ es) zero h a =
      ap (λ o. by_order o ((k, v) ∷ e ∷ es) ((e.0, v) ∷ es) (e ∷ put cmp k v es)) (is_Equal _ a)
      ∙ ap (λ j. (j, v) ∷ es) (sym (tied k e.0 (is_Equal _ a)))
  put_old k v (e ∷ es) (suc p) h a =
      ap (λ o. by_order o ((k, v) ∷ e ∷ es) ((e.0, v) ∷ es) (e ∷ put cmp k v es)) (above k e h.0)
      ∙ ap (λ r. e ∷ r) (put_old k v es p h.1 a)

  none_behind : (k x : K) (es : List (K × V)) → cmp k x ≡ Less → T (below_all cmp x es) → find cmp k es ≡ None
  none_behind k x [] l b = refl
  none_behind k x (e ∷ es) l b =
      let less = total.trans k x e.0 l (T_less _ (T_first _ _ b)) in
      ap (λ o. cond (is_eq o) (Some e.1) (find cmp k es)) less ∙ none_behind k x es l (T_second _ _ b)

  find_none : (k : K) (es : List (K × V)) (p : ℕ) → T (is_sorted cmp es) → Stands k es p → is_at cmp k es p ≡ false
      → find cmp k es ≡ None
  unfolding Stands
  find_none k [] p s h a = refl
  find_none k (e ∷ es) zero s h a =
      let less = behind k e h a in
      ap (λ o. cond (is_eq o) (Some e.1) (find cmp k es)) less ∙ none_behind k e.0 es less (T_first _ _ s)
  find_none k (e ∷ es) (suc p) s h a =
      ap (λ o. cond (is_eq o) (Some e.1) (find cmp k es)) (above k e h.0) ∙ find_none k es p (T_second _ _ s) h.1 a

  find_some : (k : K) (es : List (K × V)) (p : ℕ) (d : K × V) → Stands k es p → is_at cmp k es p ≡ true
      → find cmp k es ≡ Some (slice_index_or es p d).1
  unfolding Stands
  find_some k [] p d h a = cc
  find_some k (e ∷ es) zero d h a = ap (λ b. cond b (Some e.1) (find cmp k es)) a
  find_some k (e ∷ es) (suc p) d h a =
      ap (λ o. cond (is_eq o) (Some e.1) (find cmp k es)) (above k e h.0) ∙ find_some k es p d h.1 a

  -- ---- in the words of a key's place

  pub put_between : (k : K) (v : V) (es : List (K × V)) (p : ℕ) → IsPlaceOf cmp k es p → is_at cmp k es p ≡ false
      → put cmp k v es ≡ insert es p (k, v)
  put_between k v es p h a = put_new k v es p (stands k es p h) a

  -- a key that comes behind all
  pub put_behind : (k : K) (v : V) (es : List (K × V)) → IsPlaceOf cmp k es (length es) → put cmp k v es ≡ es ++ (k, v) ∷ []
  put_behind k v es h = put_between k v es (length es) h (none_there cmp k es (length es) (omega arith)) ∙ insert_last es (k, v)
    where
      insert_last : (xs : List (K × V)) (x : K × V) → insert xs (length xs) x ≡ xs ++ x ∷ []
      insert_last [] x = refl
      insert_last (y ∷ ys) x = ap (λ zs. y ∷ zs) (insert_last ys x)

  pub put_over : (k : K) (v : V) (es : List (K × V)) (p : ℕ) → IsPlaceOf cmp k es p → is_at cmp k es p ≡ true
      → put cmp k v es ≡ slice_set es p (k, v)
  put_over k v es p h a = put_old k v es p (stands k es p h) a

  pub nothing_there : (k : K) (es : List (K × V)) (p : ℕ) → T (is_sorted cmp es) → IsPlaceOf cmp k es p → is_at cmp k es p ≡ false
      → find cmp k es ≡ None
  nothing_there k es p s h a = find_none k es p s (stands k es p h) a

  pub found_there : (k : K) (es : List (K × V)) (p : ℕ) (d : K × V) → IsPlaceOf cmp k es p → is_at cmp k es p ≡ true
      → find cmp k es ≡ Some (slice_index_or es p d).1
  found_there k es p d h a = find_some k es p d (stands k es p h) a
