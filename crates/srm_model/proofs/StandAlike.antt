-- The rows of a window, list after list, and in order of their keys.
use Rattle.std.proofs.Common.{◌≡◌, ◌∙◌, ℕ, zero, suc, ◌<◌, ◌≤◌, ◌+◌, Bool, true, false, cond, ◌||◌, List, [], ◌∷◌, ◌++◌}
use Rattle.std.proofs.Common.{refl, ap, sym, subst, filter, ◌==◌, eqb-true, arith, append-nil}
use Rattle.std.proofs.lemmas.Bool.{eqb-false}
use Rattle.std.proofs.lemmas.List.Elements.{filter-append}
use Rattle.std.specs.List.Sorted.{IsPermutation}
use Rattle.srm_member.proofs.AllIn.{AllIn}
use Rattle.srm_member.specs.declared.row.Row.{Row}
use Rattle.srm_member.specs.ByMember.{rows_of_member, AreAlike}
use Rattle.srm_cell.specs.Crossings.{joined}
use Rattle.srm_cell.specs.Setting.{IsFit, Setting}
use Rattle.srm_cell.specs.Cells.{Done}
use Rattle.srm_model.specs.World.{World, run, IsReached}
use Rattle.srm_model.specs.Laws.{by_member, new_rows}
use Rattle.srm_model.specs.Schedules.{IsSafe}
use Rattle.srm_model.specs.WindowRuns.{OwnResult, AreOwnRuns, IsMerge, rows_in}
use Rattle.srm_model.specs.WindowLaws.{MembersStandAlike}
use Rattle.srm_model.proofs.Merge.{merges_agree, in_range, too_low, all_low, seq_members}
use Rattle.srm_model.proofs.OneWindow.{part_of, part_rows, new_rows_are}
use Rattle.srm_model.proofs.Sequential.{good_reached}
use Rattle.srm_model.proofs.SortedRows.{rows_rise}

-- ---- rows of one member among those of a member

module _ {A : Type 0} (p : A → Bool) where
  twice_at : (x : A) (xs : List A) (b : Bool) → p x ≡ b → filter p (filter p xs) ≡ filter p xs
      → filter p (cond b (x ∷ filter p xs) (filter p xs)) ≡ cond b (x ∷ filter p xs) (filter p xs)
  twice_at x xs true e h =
      ap (λ b. cond b (x ∷ filter p (filter p xs)) (filter p (filter p xs))) e ∙ ap (λ l. x ∷ l) h
  twice_at x xs false e h = h

  twice : (xs : List A) → filter p (filter p xs) ≡ filter p xs
  twice [] = refl
  twice (x ∷ xs) = twice_at x xs (p x) refl (twice xs)

  module _ (q : A → Bool) (apart : (x : A) → q x ≡ true → p x ≡ false) where
    none_at : (x : A) (xs : List A) (b : Bool) → q x ≡ b → filter p (filter q xs) ≡ []
        → filter p (cond b (x ∷ filter q xs) (filter q xs)) ≡ []
    none_at x xs true e h = ap (λ b. cond b (x ∷ filter p (filter q xs)) (filter p (filter q xs))) (apart x e) ∙ h
    none_at x xs false e h = h

    none : (xs : List A) → filter p (filter q xs) ≡ []
    none [] = refl
    none (x ∷ xs) = none_at x xs (q x) refl (none xs)

of_one : (m i : ℕ) (rows : List Row) → rows_of_member m (rows_of_member i rows) ≡ cond (m == i) (rows_of_member m rows) []
of_one m i rows = elim (m == i) as (λ b. (m == i) ≡ b → rows_of_member m (rows_of_member i rows) ≡ cond b (rows_of_member m rows) []) [
  | true ↦ λ e.
      let same : m ≡ i = eqb-true m i e in
      subst (λ k. rows_of_member m (rows_of_member k rows) ≡ rows_of_member m rows) same (twice (λ (r : Row). r.key.member == m) rows)
  | false ↦ λ e.
      none (λ (r : Row). r.key.member == m) (λ (r : Row). r.key.member == i)
      (λ r is.
      let at : r.key.member ≡ i = eqb-true _ _ is in
      let apart = eqb-false m i e in
      elim (r.key.member == m) as (λ b. (r.key.member == m) ≡ b → b ≡ false) [
        | true ↦ λ yes. absurd (apart (sym (eqb-true _ _ yes) ∙ at))
        | false ↦ λ no. refl
      ] refl) rows
] refl

one_of_two : {A : Type 0} (a b : Bool) (xs : List A) → (a ≡ true → b ≡ false) → cond a xs [] ++ cond b xs [] ≡ cond (a || b) xs []
one_of_two true b xs h = ap (λ c. xs ++ cond c xs []) (h refl) ∙ append-nil xs
one_of_two false b xs h = refl

-- member m's rows, where those of each of n members stand together
of_joined : (m n i : ℕ) (rows : List Row) → rows_of_member m (joined (by_member i n rows))
    ≡ cond (in_range i n m) (rows_of_member m rows) []
unfolding in_range
of_joined m zero i rows = refl
of_joined m (suc n) i rows =
    filter-append (λ (r : Row). r.key.member == m) (rows_of_member i rows) (joined (by_member (suc i) n rows))
    ∙ (λ k. of_one m i rows k ++ of_joined m n (suc i) rows k)
    ∙ one_of_two (m == i) (in_range (suc i) n m) (rows_of_member m rows)
    (λ e. too_low (suc i) n m (let same = eqb-true m i e in omega arith))

no_rows_at : (m : ℕ) (r : Row) (rows : List Row) (b : Bool) → (r.key.member == m) ≡ b → r.key.member < m → rows_of_member m rows ≡ []
    → cond b (r ∷ rows_of_member m rows) (rows_of_member m rows) ≡ []
no_rows_at m r rows true e lt h = absurd (let same = eqb-true _ _ e in omega arith)
no_rows_at m r rows false e lt h = h

-- a member past all has no row
no_rows : (n m : ℕ) (rows : List Row) → n ≤ m → AllIn (λ (r : Row). r.key.member < n) rows → rows_of_member m rows ≡ []
no_rows n m [] le h = refl
no_rows n m (r ∷ rows) le h = no_rows_at m r rows (r.key.member == m) refl (let lt = h.0 in omega arith) (no_rows n m rows le h.1)

beyond : (n i m : ℕ) → in_range i n m ≡ false → i ≤ m → i + n ≤ m
beyond n i m e le = grind (arith, all_low)

-- the rows of each member stand in one order
pub listed_alike : (n : ℕ) (rows : List Row) → AllIn (λ (r : Row). r.key.member < n) rows → AreAlike (joined (by_member 0 n rows)) rows
listed_alike n rows h m =
    of_joined m n 0 rows
    ∙ elim (in_range 0 n m) as (λ b. in_range 0 n m ≡ b → cond b (rows_of_member m rows) [] ≡ rows_of_member m rows) [
      | true ↦ λ e. refl
      | false ↦ λ e. sym (no_rows n m rows (let far = beyond n 0 m e (omega arith) in omega arith) h)
    ] refl

-- the rows that a run adds are of members
new_members : (s : Setting) (w v : World) → IsFit s → IsReached s w → (n : ℕ) → run s n w ≡ Done v
    → AllIn (λ (r : Row). r.key.member < s.traffic.members) (new_rows w v)
new_members s w v fit reached n h =
    let good = good_reached s fit reached.0 w reached.1 in
    let r = part_rows s fit n w v h in
    subst (AllIn (λ (r : Row). r.key.member < s.traffic.members)) (sym (new_rows_are w v r.0 r.2)) (seq_members s fit r.1 good)

-- a window's rows in order of their keys are those that the run adds
merge_is_new : (s : Setting) (w : World) (till : ℕ) (fit : IsFit s) (reached : IsReached s w) (within : till ≤ s.traffic.until)
    (safe : IsSafe s till w) (results : List OwnResult) (runs : AreOwnRuns till 0 w.cells results) (rows : List Row)
    → IsMerge (rows_in results) rows → new_rows w (part_of s w till fit reached within safe results runs).0 ≡ rows
merge_is_new s w till fit reached within safe results runs rows merge =
    let part = part_of s w till fit reached within safe results runs in
    let p = part.1 in
    merges_agree s w part.0 fit reached p.first.steps p.first.comes rows
    (rows_rise rows merge.in_order) (subst (λ l. IsPermutation (joined l) rows) p.rows merge.all)

-- a window's results have the rows of each member of them
pub results_by_member : (s : Setting) (w : World) (till : ℕ) → IsFit s → IsReached s w → till ≤ s.traffic.until → IsSafe s till w
    → (results : List OwnResult) → AreOwnRuns till 0 w.cells results → (rows : List Row) → IsMerge (rows_in results) rows
    → rows_in results ≡ by_member 0 s.traffic.members rows
results_by_member s w till fit reached within safe results runs rows merge =
    (part_of s w till fit reached within safe results runs).1.rows
    ∙ ap (by_member 0 s.traffic.members) (merge_is_new s w till fit reached within safe results runs rows merge)

pub members_stand_alike : MembersStandAlike
members_stand_alike s w till fit reached within safe results runs rows merge =
    let part = part_of s w till fit reached within safe results runs in
    let all = subst (AllIn (λ (r : Row). r.key.member < s.traffic.members))
    (merge_is_new s w till fit reached within safe results runs rows merge)
    (new_members s w part.0 fit reached part.1.first.steps part.1.first.comes) in
    subst (λ l. AreAlike l rows) (sym (ap joined (results_by_member s w till fit reached within safe results runs rows merge)))
    (listed_alike s.traffic.members rows all)
