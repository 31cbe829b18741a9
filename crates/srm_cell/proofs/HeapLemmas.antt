-- Flights in a heap, and the same in order.
use Rattle.std.proofs.Common.{◌≡◌, ◌≢◌, ℕ, zero, suc, ◌<◌, false, List, [], ◌∷◌, refl, sym, ap, ◌∙◌, subst, arith, length}
use Rattle.std.proofs.Common.{Ordering, Equal, true≢false, slice_get, Option, Some, None, MatchOption}
use Rattle.std.proofs.Math.ListN.{get_or, set}
use Rattle.std.proofs.lemmas.List.Sorted.{IsPermutation-keeps, IsPermutation-swap}
use Rattle.std.proofs.lemmas.Map.Keys.{IsDistinct-head, IsDistinct-tail, IsDistinct-cons, IsDistinct-IsPermutation}
use Rattle.std.specs.BinaryHeap.{HeapUnchanged, IsHeap, IsUpperBound, PopsGreatest, heap_items, heap_len}
use Rattle.std.specs.declared.collections.binary_heap.BinaryHeap.{BinaryHeap}
use Rattle.std.specs.Option.{IfNone, IfSome}
use Rattle.std.specs.Cmp.{IsTotalOrder, eq_by_cmp_equiv}
use Rattle.std.specs.List.{AllByRecursion, IsDistinct, swap}
use Rattle.std.specs.List.Sorted.{IsPermutation}
use Rattle.std.specs.Ordering.{eq_by_cmp, flip_args, is_eq}
use Rattle.srm_net.specs.Orders.{place, ordered, NoneBelow}
use Rattle.srm_member.proofs.OrderLemmas.{place-comm, place_first}
use Rattle.srm_cell.proofs.InboxLines.{Apart, none_below_ordered}

module _ {A : Type 0} (cmp : A → A → Ordering) (o : IsTotalOrder cmp) where
  abbrev AreApart : List A → Type 0
  AreApart xs = IsDistinct (eq_by_cmp cmp) xs

  abbrev IsApart : A → List A → Type 0
  IsApart x ys = AllByRecursion (λ y. eq_by_cmp cmp x y ≡ false) ys

  not_equal : (x y : A) → eq_by_cmp cmp x y ≡ false → cmp x y ≢ Equal
  not_equal x y h q = true≢false (sym (ap is_eq q) ∙ h)

  apart_at : (x : A) (ys : List A) (j : ℕ) (d : A) → j < length ys → IsApart x ys → eq_by_cmp cmp x (get_or ys j d) ≡ false
  apart_at x [] j d lt h = absurd (omega arith)
  apart_at x (y ∷ ys) zero d lt h = h.0
  apart_at x (y ∷ ys) (suc j) d lt h = apart_at x ys j d (omega arith) h.1

  -- an element and a later one may change places
  exchanged : (x : A) (ys : List A) (j : ℕ) (d : A) → j < length ys → AreApart (x ∷ ys)
      → place cmp (get_or ys j d) (ordered cmp (set ys j x)) ≡ place cmp x (ordered cmp ys)
  exchanged x [] j d lt h = absurd (omega arith)
  exchanged x (y ∷ ys) zero d lt h =
      sym (place-comm cmp o x y (not_equal x y (IsDistinct-head _ x (y ∷ ys) h).0) (ordered cmp ys))
  exchanged x (z ∷ ys) (suc j) d lt h =
      let y = get_or ys j d in
      let apart = IsDistinct-head _ x (z ∷ ys) h in
      let rest = IsDistinct-tail _ x (z ∷ ys) h in
      let later = apart_at z ys j d (omega arith) (IsDistinct-head _ z ys rest) in
      sym (place-comm cmp o z y (not_equal z y later) (ordered cmp (set ys j x)))
      ∙ ap (place cmp z) (exchanged x ys j d (omega arith) (IsDistinct-cons _ x ys apart.1 (IsDistinct-tail _ z ys rest)))
      ∙ sym (place-comm cmp o x z (not_equal x z apart.0) (ordered cmp ys))

  swapped : (xs : List A) (i j : ℕ) (d : A) → i < length xs → j < length xs → AreApart xs
      → ordered cmp (set (set xs i (get_or xs j d)) j (get_or xs i d)) ≡ ordered cmp xs
  swapped [] i j d lt le h = absurd (omega arith)
  swapped (x ∷ xs) zero zero d lt le h = refl
  swapped (x ∷ xs) zero (suc j) d lt le h = exchanged x xs j d (omega arith) h
  swapped (x ∷ xs) (suc i) zero d lt le h = exchanged x xs i d (omega arith) h
  swapped (x ∷ xs) (suc i) (suc j) d lt le h =
      ap (place cmp x) (swapped xs i j d (omega arith) (omega arith) (IsDistinct-tail _ x xs h))

  swap_same : (xs : List A) (i j : ℕ) → i < length xs → j < length xs → AreApart xs → ordered cmp (swap xs i j) ≡ ordered cmp xs
  swap_same [] i j lt le h = absurd (omega arith)
  swap_same (x ∷ xs) i j lt le h = swapped (x ∷ xs) i j x lt le h

  -- elements that are apart have one order
  one_order : (xs ys : List A) → IsPermutation xs ys → AreApart xs → (ordered cmp ys ≡ ordered cmp xs) × AreApart ys
  one_order xs ys p h = IsPermutation-keeps xs (λ l. (ordered cmp l ≡ ordered cmp xs) × AreApart l) (refl, h) (λ l i j lt le s. (
    swap_same l i j lt le s.1 ∙ s.0,
    IsDistinct-IsPermutation _ (eq_by_cmp_equiv o).symm l (swap l i j) (IsPermutation-swap l (swap l i j) i j lt le refl) s.1,
  )) ys p

  -- the order of a heap that has the least first
  abbrev back : A → A → Ordering
  back = flip_args cmp

  no_item : (xs : List A) → length xs ≡ 0 → xs ≡ []
  no_item [] h = refl
  no_item (x ∷ xs) h = absurd (omega arith)

  none_below : (x : A) (ys : List A) → IsUpperBound back x ys → NoneBelow cmp x ys
  none_below x [] h = tt
  none_below x (y ∷ ys) h = (h.0, none_below x ys h.1)

  unequal : (r : Ordering) → r ≢ Equal → is_eq r ≡ false
  unequal r h = grind arith

  is_apart : (x : A) (ys : List A) → Apart cmp o x ys → IsApart x ys
  is_apart x [] h = tt
  is_apart x (y ∷ ys) h = (unequal (cmp x y) h.0, is_apart x ys h.1)

  -- what a push of an element that is apart from the others leaves
  pub pushed : (x : A) (xs ys : List A) → IsPermutation (x ∷ xs) ys → Apart cmp o x xs → AreApart xs
      → (ordered cmp ys ≡ place cmp x (ordered cmp xs)) × AreApart ys
  pushed x xs ys p h g = one_order (x ∷ xs) ys p (IsDistinct-cons _ x xs (is_apart x xs h) g)

  -- what a pop gives, and leaves
  pub popped : {Z : Type 0} (r : Option A) (old new : BinaryHeap A Z) → IfSome r (λ x. IsPermutation (heap_items old) (x ∷ heap_items new))
      → IfSome r (λ x. IsHeap back (heap_items old) → IsUpperBound back x (heap_items new))
      → IfSome r (λ x. PopsGreatest back (heap_items old) x (heap_items new)) → IfNone r (HeapUnchanged old new)
      → IfNone r (heap_len old ≡ 0) → IsHeap back (heap_items old) → AreApart (heap_items old)
      → MatchOption r ((ordered cmp (heap_items old) ≡ []) × (ordered cmp (heap_items new) ≡ []))
      (λ x. ordered cmp (heap_items old) ≡ x ∷ ordered cmp (heap_items new))
      × IsHeap back (heap_items new) × AreApart (heap_items new)
  popped (Some x) old new moved bound pops same none h apart =
      let order = one_order (heap_items old) (x ∷ heap_items new) moved apart in (
        sym order.0 ∙ place_first cmp o x _ (none_below_ordered cmp o x _ (none_below x (heap_items new) (bound h))),
        (pops h).0,
        IsDistinct-tail _ x (heap_items new) order.1,
      )
  popped None old new moved bound pops same none h apart =
      let empty : heap_items old ≡ [] = no_item (heap_items old) (sym old.data.ok.0 ∙ none) in (
        (ap (ordered cmp) empty, ap (ordered cmp) (same.0 ∙ empty)),
        subst (IsHeap back) (sym same.0) h,
        subst AreApart (sym same.0) apart,
      )

  -- the top of a heap is the first in order
  pub top_first : (x : A) (xs : List A) → 0 < length xs → x ≡ get_or xs 0 x → IsUpperBound back x xs
      → slice_get (ordered cmp xs) 0 ≡ Some x
  top_first x [] lt is bound = absurd (omega arith)
  top_first x (y ∷ ys) lt is bound =
      ap (λ l. slice_get l 0) (place_first cmp o y (ordered cmp ys)
      (none_below_ordered cmp o y ys (none_below y ys (subst (λ z. IsUpperBound back z ys) is bound.1)))) ∙ ap Some (sym is)
