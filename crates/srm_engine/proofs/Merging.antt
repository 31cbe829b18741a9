-- The rows of all members, merged.
use Rattle.std.proofs.Common.{◌≡◌, ◌∙◌, ℕ, suc, ◌<◌, ◌+◌, Bool, true, false, true≢false, cond, ◌==◌, eq-eqb, List, [], ◌∷◌, ◌++◌}
use Rattle.std.proofs.Common.{filter, map, length, All, IfOk, Result, Ok, Err, IsPermutation, IsSorted, Ordering, is_lt}
use Rattle.std.proofs.Common.{refl, sym, ap, subst, inl, inr, arith}
use Rattle.std.specs.Ordering.{is_eq, nat_cmp, ordering_then}
use Rattle.std.specs.Cmp.{IsStrictWeakOrder}
use Rattle.std.specs.Global.{Vec}
use Rattle.std.proofs.lemmas.List.Elements.{All-nil, All-cons, All-head, All-tail}
use Rattle.std.proofs.lemmas.List.Kept.{IsSortedBy-filter}
use Rattle.std.proofs.lemmas.List.Sorted.{ranks_by, All-permutation, sum_by-IsPermutation}
use Rattle.srm_net.proofs.Basics.{one_if}
use Rattle.srm_member.specs.declared.row.Row.{Row}
use Rattle.srm_member.specs.ByMember.{AreAlike}
use Rattle.srm_member.specs.Record.{count_if}
use Rattle.srm_member.proofs.AllIn.{AllIn}
use Rattle.srm_member.proofs.FewerTimers.{In}
use Rattle.srm_cell.specs.Crossings.{joined}
use Rattle.srm_interfaces.specs.InTurn.{HasTurn, KeepInTurn}
use Rattle.srm_interfaces.specs.Watches.{KeepMembers}
use Rattle.srm_model.specs.Laws.{by_member}
use Rattle.srm_model.specs.World.{row_cmp}
use Rattle.srm_model.proofs.Merge.{count-sum_by, same_merge}
use Rattle.srm_model.proofs.SortedRows.{ascends_sorted, rows_rise, rows_total}
use Rattle.srm_model.proofs.StandAlike.{listed_alike}
use Rattle.srm_engine.specs.Groups.{all_in}

-- ---- what a permutation keeps

module _ {A : Type 0} where
  each_in : (Q : A → Type 0) (z : A) (xs : List A) → All Q xs → In z xs → Q z
  each_in Q z [] h g = absurd g
  each_in Q z (x ∷ xs) h (inl e) = subst Q e (All-head Q x xs h)
  each_in Q z (x ∷ xs) h (inr g) = each_in Q z xs (All-tail Q x xs h) g

  in_each : (Q : A → Type 0) (xs : List A) → ((z : A) → In z xs → Q z) → All Q xs
  in_each Q [] h = All-nil Q
  in_each Q (x ∷ xs) h = All-cons Q x xs (h x (inl refl)) (in_each Q xs (λ z g. h z (inr g)))

  in_before : (xs ys : List A) → IsPermutation xs ys → (z : A) → In z ys → In z xs
  in_before xs ys perm z =
      each_in (λ x. In x xs) z ys (All-permutation (λ x. In x xs) xs ys perm (in_each (λ x. In x xs) xs (λ x g. g)))

  module _ (p : A → Bool) where
    as_often : (xs ys : List A) → IsPermutation xs ys → count_if p ys ≡ count_if p xs
    as_often xs ys perm = count-sum_by p ys ∙ sum_by-IsPermutation (λ x. one_if (p x)) xs ys perm ∙ sym (count-sum_by p xs)

    one_counted : (b : Bool) (x : A) (xs : List A) → one_if b + length xs ≡ length (cond b (x ∷ xs) xs)
    one_counted true x xs = omega arith
    one_counted false x xs = omega arith

    passed : (xs : List A) → count_if p xs ≡ length (filter p xs)
    passed [] = refl
    passed (x ∷ xs) = ap (λ n. one_if (p x) + n) (passed xs) ∙ one_counted (p x) x (filter p xs)

    to_filter : (z x : A) (xs : List A) (b : Bool) → p x ≡ b → p z ≡ true → (In z xs → In z (filter p xs)) → In z (x ∷ xs)
        → In z (cond b (x ∷ filter p xs) (filter p xs))
    to_filter z x xs true e t more (inl g) = inl g
    to_filter z x xs true e t more (inr g) = inr (more g)
    to_filter z x xs false e t more (inl g) = absurd (true≢false (sym t ∙ ap p (sym g) ∙ e))
    to_filter z x xs false e t more (inr g) = more g

    in_filter : (z : A) (xs : List A) → p z ≡ true → In z xs → In z (filter p xs)
    in_filter z [] t g = g
    in_filter z (x ∷ xs) t g = to_filter z x xs (p x) refl t (in_filter z xs t) g

    from_filter : (z x : A) (xs : List A) (b : Bool) → (In z (filter p xs) → In z xs) → In z (cond b (x ∷ filter p xs) (filter p xs))
        → In z (x ∷ xs)
    from_filter z x xs true less (inl g) = inl g
    from_filter z x xs true less (inr g) = inr (less g)
    from_filter z x xs false less g = inr (less g)

    of_filter : (z : A) (xs : List A) → In z (filter p xs) → In z xs
    of_filter z [] g = g
    of_filter z (x ∷ xs) g = from_filter z x xs (p x) (of_filter z xs) g

-- ---- rows of one key are of one member

module _ {A : Type 0} (p q : A → Bool) (so : (x : A) → p x ≡ true → q x ≡ true) where
  not_so : (x : A) → q x ≡ false → p x ≡ false
  not_so x e = elim (p x) as (λ b. p x ≡ b → b ≡ false) [
    | true ↦ λ t. sym (so x t) ∙ e
    | false ↦ λ t. refl
  ] refl

  narrowed_at : (x : A) (xs : List A) (b : Bool) → q x ≡ b → filter p (filter q xs) ≡ filter p xs
      → filter p (cond b (x ∷ filter q xs) (filter q xs)) ≡ filter p (x ∷ xs)
  narrowed_at x xs true e h = ap (λ l. cond (p x) (x ∷ l) l) h
  narrowed_at x xs false e h = h ∙ sym (ap (λ b. cond b (x ∷ filter p xs) (filter p xs)) (not_so x e))

  narrowed : (xs : List A) → filter p (filter q xs) ≡ filter p xs
  narrowed [] = refl
  narrowed (x ∷ xs) = narrowed_at x xs (q x) refl (narrowed xs)

same_number : (a b c d : ℕ) (o : Ordering) → is_eq (ordering_then (nat_cmp a c) (ordering_then (nat_cmp b d) o)) ≡ true → d ≡ b
same_number a b c d o h = grind arith

same_member : (k x : Row) → is_eq (row_cmp k x) ≡ true → (x.key.member == k.key.member) ≡ true
same_member k x h = eq-eqb x.key.member k.key.member (same_number k.key.time k.key.member x.key.time x.key.member _ h)

keyed_alike : (xs ys : List Row) → AreAlike xs ys → (k : Row) → filter (λ x. is_eq (row_cmp k x)) xs
    ≡ filter (λ x. is_eq (row_cmp k x)) ys
keyed_alike xs ys h k =
    let p = λ (x : Row). is_eq (row_cmp k x) in
    let q = λ (x : Row). x.key.member == k.key.member in
    sym (narrowed p q (same_member k) xs) ∙ ap (filter p) (h k.key.member) ∙ narrowed p q (same_member k) ys

-- ---- the rows of all members

members_in : (n : ℕ) (rows : List Row) → All (HasTurn n) rows → AllIn (λ (r : Row). r.key.member < n) rows
members_in n [] h = tt
members_in n (r ∷ rows) h = ((All-head (HasTurn n) r rows h).member, members_in n rows (All-tail (HasTurn n) r rows h))

lists_are : (m : ℕ) (lists : List (Vec Row)) (rows : List Row) → KeepMembers (λ (l : Vec Row) own. l.items ≡ own) m lists rows
    → all_in lists ≡ joined (by_member m (length lists) rows)
lists_are m [] rows h = refl
lists_are m (l ∷ lists) rows h = λ i. h.0 i ++ lists_are (suc m) lists rows h.1 i

pub weak_order : IsStrictWeakOrder (λ x y. is_lt (row_cmp x y))
weak_order = ranks_by rows_total (λ (r : Row). r)

-- each member's list stands in order
pub each_sorted : (m : ℕ) (lists : List (Vec Row)) (rows : List Row) → KeepMembers (λ (l : Vec Row) own. l.items ≡ own) m lists rows
    → IsSorted row_cmp rows → All (IsSorted row_cmp) (map (λ (l : Vec Row). l.items) lists)
each_sorted m [] rows h sorted = All-nil (IsSorted row_cmp)
each_sorted m (l ∷ lists) rows h sorted =
    All-cons (IsSorted row_cmp) l.items (map (λ (l : Vec Row). l.items) lists)
    (subst (IsSorted row_cmp) (sym h.0)
    (IsSortedBy-filter (λ x y. is_lt (row_cmp x y)) weak_order (λ (r : Row). r.key.member == m) rows sorted))
    (each_sorted (suc m) lists rows h.1 sorted)

pub in_turn_sorted : (lists : List (Vec Row)) (rows : List Row) → KeepInTurn (λ (l : Vec Row) own. l.items ≡ own) lists rows
    → All (IsSorted row_cmp) (map (λ (l : Vec Row). l.items) lists)
in_turn_sorted lists rows are = each_sorted 0 lists rows are.are (ascends_sorted rows are.rise)

-- the rows of all members in order of their keys, which differ, are those of which each has its own
pub merged : (lists : List (Vec Row)) (rows all : List Row) → KeepInTurn (λ (l : Vec Row) own. l.items ≡ own) lists rows
    → IsPermutation (all_in lists) all → IsSorted row_cmp all → all ≡ rows
merged lists rows all are perm sorted =
    let alike : AreAlike (all_in lists) rows = subst (λ l. AreAlike l rows) (sym (lists_are 0 lists rows are.are))
    (listed_alike (length lists) rows (members_in (length lists) rows are.turns)) in
    sym (same_merge row_cmp rows_total rows all are.rise (rows_rise all sorted)
    (λ k.
    let p = λ (x : Row). is_eq (row_cmp k x) in
    as_often p (all_in lists) all perm ∙ passed p (all_in lists) ∙ ap length (keyed_alike (all_in lists) rows alike k)
    ∙ sym (passed p rows))
    (λ z g.
    let own = λ (r : Row). r.key.member == z.key.member in
    of_filter own z rows (subst (In z) (alike z.key.member)
    (in_filter own z (all_in lists) (eq-eqb z.key.member z.key.member refl) (in_before (all_in lists) all perm z g)))))

-- a merge of them, where it is made
pub merged_all : {E : Type 0} (r : Result (Vec Row) E) (lists : List (Vec Row)) (rows : List Row)
    → KeepInTurn (λ (l : Vec Row) own. l.items ≡ own) lists rows → IfOk r (λ (all : Vec Row). IsPermutation (all_in lists) all.items)
    → IfOk r (λ (all : Vec Row). IsSorted row_cmp all.items) → IfOk r (λ (all : Vec Row). all.items ≡ rows)
merged_all (Ok all) lists rows are perm sorted = merged lists rows all.items are perm sorted
merged_all (Err e) lists rows are perm sorted = tt
