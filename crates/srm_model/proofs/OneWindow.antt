-- A window is a part of the sequential run.
use Rattle.std.proofs.Common.{◌≡◌, ℕ, zero, suc, ◌≤◌, ◌+◌, true, false, List, [], ◌∷◌, ◌++◌, length, drop, refl, sym, ap, ◌∙◌, subst, arith}
use Rattle.std.proofs.Common.{Some, slice_get, add-zero, zero-add, Bool, cond, Ordering, is_lt}
use Rattle.std.proofs.Math.Seq.{drop-append_seam}
use Rattle.std.specs.Cmp.{IsTotalOrder}
use Rattle.std.specs.List.Sorted.{IsPermutation}
use Rattle.std.proofs.lemmas.List.Sorted.{IsPermutation-refl, IsPermutation-sym, IsPermutation-trans, IsPermutation-cons}
use Rattle.std.proofs.lemmas.List.Sorted.{IsPermutation-middle}
use Rattle.std.proofs.lemmas.Option.{same_Some}
use Rattle.srm_net.specs.Orders.{place, ordered, Rises}
use Rattle.srm_member.specs.declared.row.Row.{Row}
use Rattle.srm_cell.specs.Cells.{PlainCell, Idle, Done}
use Rattle.srm_cell.specs.OwnRuns.{IsOwnRun, hear_rows, own_rows, own_end, own_after}
use Rattle.srm_cell.specs.Setting.{Setting, IsFit}
use Rattle.srm_cell.proofs.OwnRunLemmas.{own_runs_are_one}
use Rattle.srm_member.proofs.OrderLemmas.{rises_place}
use Rattle.srm_model.specs.World.{World, row_cmp, run, opening, IsReached}
use Rattle.srm_model.specs.Schedules.{IsSafe, HasResult}
use Rattle.srm_model.specs.Windows.{IsFirstQuiet}
use Rattle.srm_cell.specs.Crossings.{joined}
use Rattle.srm_model.specs.Laws.{by_member, new_rows}
use Rattle.srm_model.specs.WindowRuns.{OwnResult, AreOwnRuns, rows_in, cells_in, IsMerge, each_hears, after_window}
use Rattle.srm_model.specs.WindowLaws.{WindowsAgree, WindowsAreThere}
use Rattle.srm_model.proofs.LawProofs.{Alone, cells_run_alone, run_on, schedules_agree}
use Rattle.srm_model.proofs.Merge.{merges_agree}
use Rattle.srm_model.proofs.RunLemmas.{Seq, seq_run, shifted}
use Rattle.srm_model.proofs.SortedRows.{rows_rise, rows_are_sorted, rows_total}
use Rattle.srm_model.proofs.Sequential.{good_reached, run_seq}

-- ---- results

-- what the own run of a cell gives
pub result_at : (till i : ℕ) (cs : List PlainCell) (rs : List OwnResult) → AreOwnRuns till i cs rs → (j : ℕ) (c : PlainCell)
    → slice_get cs j ≡ Some c → (r : OwnResult) × IsOwnRun till (i + j) c r.rows r.cell
result_at till i [] [] h j c g = cc
result_at till i (x ∷ cs) (r ∷ rs) h zero c g = let same : x ≡ c = cc in
    (r, rw add-zero (subst (λ y. IsOwnRun till i y r.rows r.cell) same h.0))
result_at till i (x ∷ cs) (r ∷ rs) h (suc j) c g = rw (shifted i j) (result_at till (suc i) cs rs h.1 j c g)
result_at till i [] (r ∷ rs) h j c g = absurd h
result_at till i (x ∷ cs) [] h j c g = absurd h

-- there are as many results as cells
pub as_many_results : (till i : ℕ) (cs : List PlainCell) (rs : List OwnResult) → AreOwnRuns till i cs rs → length (cells_in rs) ≡ length cs
as_many_results till i [] [] h = refl
as_many_results till i (c ∷ cs) (r ∷ rs) h = ap suc (as_many_results till (suc i) cs rs h.1)
as_many_results till i [] (r ∷ rs) h = absurd h
as_many_results till i (c ∷ cs) [] h = absurd h

pub have_results : (till : ℕ) (w : World) (rs : List OwnResult) → AreOwnRuns till 0 w.cells rs → (m : ℕ) → HasResult till w m
have_results till w rs h m c g = let r = result_at till 0 w.cells rs h m c g in (r.1.steps, rw zero-add at r.1.ends)

module _ (s : Setting) (till : ℕ) (rows : List Row) where
  -- where each cell ran alone and heard the rows, in which its own are those of its run, the results are those of the
  -- members
  run_alone : (i : ℕ) (cs : List PlainCell) (rs : List OwnResult) (ds : List PlainCell) → AreOwnRuns till i cs rs → length ds ≡ length cs
      → ((j : ℕ) (c : PlainCell) → slice_get cs j ≡ Some c → Alone s till (i + j) rows c (slice_get ds j))
      → (rows_in rs ≡ by_member i (length cs) rows) × (ds ≡ each_hears s.traffic i rows (cells_in rs))
  run_alone i [] [] [] h many alone = (refl, refl)
  run_alone i [] [] (d ∷ ds) h many alone = absurd (omega arith)
  run_alone i (c ∷ cs) (r ∷ rs) [] h many alone = absurd (omega arith)
  run_alone i (c ∷ cs) (r ∷ rs) (d ∷ ds) h many alone =
      let a : Alone s till i rows c (Some d) = rw add-zero at (alone 0 c refl) in
      let same = own_runs_are_one till i c r.rows (own_rows till i a.0 c) r.cell (own_after till i a.0 c) h.0
      (record { steps = a.0; ends = a.1; rows_are = refl; leaves = refl }) in
      let first = same.0 ∙ sym a.2 in
      let heard : d ≡ hear_rows s.traffic i rows r.cell = same_Some _ _ a.3 ∙ ap (hear_rows s.traffic i rows) (sym same.1) in
      let more = run_alone (suc i) cs rs ds h.1 (omega arith) (λ j b g. rw (← shifted i j) (alone (suc j) b g)) in
      (λ k. first k ∷ more.0 k, λ k. heard k ∷ more.1 k)
  run_alone i [] (r ∷ rs) ds h many alone = absurd h
  run_alone i (c ∷ cs) [] ds h many alone = absurd h

-- ---- the rows of a part of the run stand after those before

pub part_rows : (s : Setting) → IsFit s → (n : ℕ) (w v : World) → run s n w ≡ Done v → (rows : List Row)
    × Seq s s.traffic.until w.cells rows v.cells × (v.trace ≡ w.trace ++ rows)
part_rows s fit n w v h = grind (arith, run_seq, seq_run)

pub new_rows_are : (w v : World) (rows : List Row) → v.trace ≡ w.trace ++ rows → new_rows w v ≡ rows
new_rows_are w v rows h = ap (λ t. drop (length w.trace) t) h ∙ drop-append_seam w.trace rows

pub trace_grows : (s : Setting) → IsFit s → (n : ℕ) (w v : World) → run s n w ≡ Done v → v.trace ≡ w.trace ++ new_rows w v
trace_grows s fit n w v h = let r = part_rows s fit n w v h in r.2 ∙ ap (λ l. w.trace ++ l) (sym (new_rows_are w v r.0 r.2))

pub reached_on : (s : Setting) (n : ℕ) (w v : World) → IsReached s w → run s n w ≡ Done v → IsReached s v
reached_on s n w v reached h = (reached.0 + n, run_on s reached.0 n (opening s) w reached.1 ∙ h)

-- ---- the world to which the sequential run comes, as the own runs of its cells give it

pub record IsPart (s : Setting) (till : ℕ) (w : World) (results : List OwnResult) (u : World) : Type 0 where
  pub first : IsFirstQuiet s till w u
  pub reached : IsReached s u
  pub rows : rows_in results ≡ by_member 0 s.traffic.members (new_rows w u)
  pub cells : u.cells ≡ each_hears s.traffic 0 (new_rows w u) (cells_in results)

pub part_of : (s : Setting) (w : World) (till : ℕ) → IsFit s → IsReached s w → till ≤ s.traffic.until → IsSafe s till w
    → (results : List OwnResult) → AreOwnRuns till 0 w.cells results → (u : World) × IsPart s till w results u
part_of s w till fit reached within safe results h =
    let r = schedules_agree s w till fit reached within safe (have_results till w results h) in
    let u = r.0 in
    let first : IsFirstQuiet s till w u = r.1 in
    let on = reached_on s first.steps w u reached first.comes in
    let members = (good_reached s fit reached.0 w reached.1).members in
    let many = (good_reached s fit on.0 u on.1).members in
    let alone = run_alone s till (new_rows w u) 0 w.cells results u.cells h (many ∙ sym members)
    (λ m c g. rw (zero-add m) (cells_run_alone s w till safe r.2.0 u r.2.1 first.quiet m c g)) in
    (u, record { first = first; reached = on; rows = alone.0 ∙ ap (λ n. by_member 0 n (new_rows w u)) members; cells = alone.1 })

pub windows_agree : WindowsAgree
windows_agree s w v till fit reached within safe window =
    let part = part_of s w till fit reached within safe window.results window.alone in
    let u = part.0 in
    let p = part.1 in
    let rows : new_rows w u ≡ window.rows = merges_agree s w u fit reached p.first.steps p.first.comes window.rows
    (rows_rise window.rows window.merged.in_order) (subst (λ l. IsPermutation (joined l) window.rows) p.rows window.merged.all) in
    let cells : u.cells ≡ each_hears s.traffic 0 window.rows (cells_in window.results) = p.cells
    ∙ ap (λ l. each_hears s.traffic 0 l (cells_in window.results)) rows in
    let trace : u.trace ≡ w.trace ++ window.rows = trace_grows s fit p.first.steps w u p.first.comes ∙ ap (λ l. w.trace ++ l) rows in
    let is : u ≡ after_window s w window.results window.rows = λ i. record { cells = cells i; trace = trace i } in
    let same : u ≡ v = is ∙ sym window.is in
    (subst (IsFirstQuiet s till w) same p.first, subst (IsReached s) same p.reached)

-- ---- where every own run has a result there is a window

collected : (till i : ℕ) (cs : List PlainCell) → ((j : ℕ) (c : PlainCell) → slice_get cs j ≡ Some c → (n : ℕ)
    × (own_end till (i + j) n c ≡ Idle)) → (rs : List OwnResult) × AreOwnRuns till i cs rs
collected till i [] f = ([], tt)
collected till i (c ∷ cs) f =
    let now : (n : ℕ) × (own_end till i n c ≡ Idle) = rw add-zero at (f 0 c refl) in
    let more = collected till (suc i) cs (λ j b g. rw (← shifted i j) (f (suc j) b g)) in (
      record { rows = own_rows till i now.0 c; cell = own_after till i now.0 c } ∷ more.0,
      (record { steps = now.0; ends = now.1; rows_are = refl; leaves = refl }, more.1),
    )

module _ {A : Type 0} (cmp : A → A → Ordering) where
  either : (x y : A) (ys : List A) → IsPermutation (x ∷ ys) (place cmp x ys) → (b : Bool)
      → IsPermutation (x ∷ y ∷ ys) (cond b (y ∷ place cmp x ys) (x ∷ y ∷ ys))
  either x y ys more true = IsPermutation-trans _ _ _ (IsPermutation-sym _ _ (IsPermutation-middle (y ∷ []) x ys))
      (IsPermutation-cons y _ _ more)
  either x y ys more false = IsPermutation-refl (x ∷ y ∷ ys)

  place_moves : (x : A) (ys : List A) → IsPermutation (x ∷ ys) (place cmp x ys)
  place_moves x [] = IsPermutation-refl (x ∷ [])
  place_moves x (y ∷ ys) = either x y ys (place_moves x ys) (is_lt (cmp y x))

  ordered_moves : (xs : List A) → IsPermutation xs (ordered cmp xs)
  ordered_moves [] = IsPermutation-refl []
  ordered_moves (x ∷ xs) = IsPermutation-trans _ _ _ (IsPermutation-cons x _ _ (ordered_moves xs)) (place_moves x (ordered cmp xs))

  ordered_rises : IsTotalOrder cmp → (xs : List A) → Rises cmp (ordered cmp xs)
  ordered_rises o [] = tt
  ordered_rises o (x ∷ xs) = rises_place cmp o x (ordered cmp xs) (ordered_rises o xs)

-- lists of rows have a merge
pub some_merge : (lists : List (List Row)) → IsMerge lists (ordered row_cmp (joined lists))
some_merge lists = grind (arith, ordered_moves, rows_are_sorted, ordered_rises, rows_total)

pub windows_are_there : WindowsAreThere
windows_are_there s w till results =
    let rs = collected till 0 w.cells (λ j c g. rw (zero-add j) (results j c g)) in
    let rows = ordered row_cmp (joined (rows_in rs.0)) in (
      after_window s w rs.0 rows,
      record { results = rs.0; rows = rows; alone = rs.1; merged = some_merge (rows_in rs.0); is = refl },
    )
