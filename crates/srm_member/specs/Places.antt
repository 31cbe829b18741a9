-- Entries whose keys rise, in one list.
use Rattle.std.specs.Prelude.{ℕ, ◌≡◌, ◌≤◌, Bool, true, false, List, length, Option, Some, None, slice_get}
use Rattle.std.specs.declared.cmp.Ordering.{Ordering}
use Rattle.std.specs.List.Sorted.{IsPartitionPoint}
use Rattle.std.specs.Ordering.{is_lt, eq_by_cmp}

-- whether an entry's key is below this one
abbrev pub is_before : {K V : Type 0} → (K → K → Ordering) → K → K × V → Bool
is_before cmp k e = is_lt (cmp e.0 k)

-- the place of a key: the entries before it are those whose keys are below
abbrev pub IsPlaceOf : {K V : Type 0} → (K → K → Ordering) → K → List (K × V) → ℕ → Type 0
IsPlaceOf cmp k es p =
    (p ≤ length es)
    × IsPartitionPoint (λ e. is_before cmp k e ≡ true) (λ e. is_before cmp k e ≡ false) es p

-- whether an entry, if there is one, is that of this key
abbrev pub is_of : {K V : Type 0} → (K → K → Ordering) → K → Option (K × V) → Bool
is_of cmp k None = false
is_of cmp k (Some e) = eq_by_cmp cmp k e.0

-- whether the entry at a place is that of a key
abbrev pub is_at : {K V : Type 0} → (K → K → Ordering) → K → List (K × V) → ℕ → Bool
is_at cmp k es p = is_of cmp k (slice_get es p)
