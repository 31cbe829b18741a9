-- Lists that are sorted, as std says it, rise; and lists that rise are sorted.
use Rattle.std.proofs.Common.{◌≡◌, ℕ, zero, suc, ◌<◌, false, List, [], ◌∷◌, length, Ordering, is_lt, suc-add, arith}
use Rattle.std.specs.Cmp.{IsTotalOrder, on_total}
use Rattle.std.specs.List.Sorted.{IsSorted}
use Rattle.std.proofs.lemmas.List.Sorted.{ranks_by, sorted_far}
use Rattle.std.proofs.Math.ListN.{get_or}
use Rattle.srm_net.specs.Orders.{Ascends, NoneBelow, Rises}
use Rattle.srm_net.proofs.TotalOrders.{key_total}
use Rattle.srm_member.specs.declared.row.Row.{Row}
use Rattle.srm_member.proofs.OrderLemmas.{rises}
use Rattle.srm_model.specs.World.{row_cmp}

module _ {A : Type 0} (cmp : A → A → Ordering) (o : IsTotalOrder cmp) where
  none_below : (x : A) (xs : List A) → ((j : ℕ) → j < length xs → is_lt (cmp (get_or xs j x) x) ≡ false) → NoneBelow cmp x xs
  none_below x [] h = tt
  none_below x (y ∷ ys) h = (h 0 (omega arith), none_below x ys (λ j lt. h (suc j) (omega arith)))

  sorted_tail : (x : A) (xs : List A) → IsSorted cmp (x ∷ xs) → IsSorted cmp xs
  sorted_tail x xs h k d low high = rw suc-add at (h (suc k) d (omega arith) (omega arith))

  pub sorted_rises : (xs : List A) → IsSorted cmp xs → Rises cmp xs
  sorted_rises [] h = tt
  sorted_rises (x ∷ xs) h = (
    none_below x xs (λ j lt. sorted_far (λ a b. is_lt (cmp a b)) (ranks_by o (λ (a : A). a)) (x ∷ xs) h 0 (suc j) x (omega arith)
        (omega arith)),
    sorted_rises xs (sorted_tail x xs h),
  )

  rises_sorted : (xs : List A) → Rises cmp xs → IsSorted cmp xs
  rises_sorted [] h k d low high = absurd (omega arith)
  rises_sorted (x ∷ []) h k d low high = absurd (omega arith)
  rises_sorted (x ∷ y ∷ ys) h zero d low high = h.0.0
  rises_sorted (x ∷ y ∷ ys) h (suc k) d low high = rw suc-add (rises_sorted (y ∷ ys) h.1 k d (omega arith) (omega arith))

pub rows_total : IsTotalOrder row_cmp
rows_total = on_total (λ (r : Row). r.key) key_total

pub rows_rise : (rows : List Row) → IsSorted row_cmp rows → Rises row_cmp rows
rows_rise = sorted_rises row_cmp rows_total

pub rows_are_sorted : (rows : List Row) → Rises row_cmp rows → IsSorted row_cmp rows
rows_are_sorted = rises_sorted row_cmp rows_total

pub ascends_sorted : (rows : List Row) → Ascends row_cmp rows → IsSorted row_cmp rows
ascends_sorted rows h = rows_are_sorted rows (rises row_cmp rows_total rows h)
