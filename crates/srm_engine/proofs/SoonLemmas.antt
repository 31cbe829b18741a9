-- How soon something is due in groups of cells.
use Rattle.std.proofs.Common.{◌≡◌, ℕ, suc, ◌+◌, ◌≤◌, ◌<◌, min, List, [], ◌∷◌, ◌++◌, Option, Some, None, unwrap_or}
use Rattle.std.proofs.Common.{refl, sym, ap, ◌∙◌, arith, add-one, take, get_or, slice_get, length, take_all}
use Rattle.std.proofs.lemmas.List.{length-map, map-append, take_more}
use Rattle.std.proofs.lemmas.Option.{slice_get_within, slice_get-get_or, same_Some}
use Rattle.std.specs.Global.{Vec}
use Rattle.srm_member.specs.Record.{Record}
use Rattle.srm_member.specs.declared.row.Row.{Row}
use Rattle.srm_cell.specs.declared.cell.Cell.{Cell}
use Rattle.srm_cell.specs.Setting.{Setting}
use Rattle.srm_cell.specs.Cells.{OwnCell, PlainCell, Event, earlier, next_event, time_of}
use Rattle.srm_cell.specs.Jobs.{RanAlone, RanEach, own_cells}
use Rattle.srm_cell.specs.Views.{IsNextTime, event_of, own_cell, plain_cell}
use Rattle.srm_cell.proofs.Nexts.{idle_step, none_due}
use Rattle.srm_cell.proofs.OwnRunLemmas.{after_idle}
use Rattle.srm_model.specs.World.{World, least_event}
use Rattle.srm_model.specs.Windows.{least_promise, least_with, promise_by, promise_end, promise_of, way_of}
use Rattle.srm_model.specs.WindowChains.{start_of}
use Rattle.srm_model.specs.WindowRuns.{cells_from}
use Rattle.srm_model.proofs.Lookahead.{least_with_in, least_with_le}
use Rattle.srm_engine.specs.declared.soonest.Soonest.{Soonest}
use Rattle.srm_engine.specs.Groups.{all_in}
use Rattle.srm_engine.specs.Seen.{AreFrom, AreInOrder, plain_cells}
use Rattle.srm_engine.specs.Soonest.{due, first_promise, first_time, least_of, promised, soon_in, soonest_of}
use Rattle.srm_engine.proofs.CellLists.{own_all}
use Rattle.srm_engine.proofs.SeenLemmas.{map_get, number_at, sound_at}

-- ---- the least of a list

least_with_both : (a b : ℕ) (o : Option ℕ) → least_with (min a b) o ≡ min a (least_with b o)
least_with_both a b None = refl
least_with_both a b (Some k) = omega arith

module _ {A : Type 0} (g : A → Option ℕ) (n : ℕ) where
  least_most : (xs : List A) → least_of g n xs ≤ n
  least_most [] = omega arith
  least_most (x ∷ xs) =
      let most = least_most xs in
      let le = least_with_le (least_of g n xs) (g x) in
      omega arith

  least_append : (xs ys : List A) → least_of g n (xs ++ ys) ≡ min (least_of g n ys) (least_of g n xs)
  least_append [] ys = let most = least_most ys in omega arith
  least_append (x ∷ xs) ys =
      ap (λ k. least_with k (g x)) (least_append xs ys) ∙ least_with_both (least_of g n ys) (least_of g n xs) (g x)

  least_more : (xs : List A) (x : A) → least_of g n (xs ++ x ∷ []) ≡ least_with (least_of g n xs) (g x)
  least_more xs x = least_append xs (x ∷ []) ∙ last (g x)
    where
      last : (o : Option ℕ) → min (least_with n o) (least_of g n xs) ≡ least_with (least_of g n xs) o
      last None = let most = least_most xs in omega arith
      last (Some k) = let most = least_most xs in omega arith

  -- one more of a list is looked at
  pub least_so_far : (xs : List A) (i : ℕ) (d : A) (best : ℕ) → i < length xs → best ≡ least_of g n (take i xs)
      → least_with best (g (get_or xs i d)) ≡ least_of g n (take (i + 1) xs)
  least_so_far xs i d best lt is =
      ap (λ k. least_with k (g (get_or xs i d))) is
      ∙ sym (ap (least_of g n) (take_more xs i d lt) ∙ least_more (take i xs) (get_or xs i d))

  -- and all
  pub least_of_all : (xs : List A) (i best : ℕ) → length xs ≤ i → best ≡ least_of g n (take i xs) → best ≡ least_of g n xs
  least_of_all xs i best past is = is ∙ ap (least_of g n) (take_all i xs past)

-- ---- the least of all cells

-- the earlier event has the lesser time
earlier_time : (n : ℕ) (x y : Option Event) → min n (unwrap_or (time_of (earlier x y)) n)
    ≡ least_with (min n (unwrap_or (time_of y) n)) (time_of x)
earlier_time n x y = grind arith

time_is_least : (n i : ℕ) (cs : List PlainCell) → min n (unwrap_or (time_of (least_event i cs)) n) ≡ least_of due n (cells_from i cs)
unfolding least_event
time_is_least n i [] = omega arith
time_is_least n i (c ∷ cs) =
    earlier_time n (next_event i c) (least_event (suc i) cs)
    ∙ ap (λ k. least_with k (time_of (next_event i c))) (time_is_least n (suc i) cs)

promise_is_least : (s : Setting) (i : ℕ) (cs : List PlainCell) → least_promise s i cs
    ≡ least_of (promised s) s.traffic.until (cells_from i cs)
promise_is_least s i [] = refl
promise_is_least s i (c ∷ cs) =
    ap (λ k. least_with k (promise_of s i c)) (ap (λ m. least_promise s m cs) (add-one i) ∙ promise_is_least s (suc i) cs)

module _ {M : Type 0} (f : M → Record) (s : Setting) where
  -- the least of the groups' leasts is that of all cells
  least_of_groups : (g : OwnCell → Option ℕ) (h : Soonest → ℕ) (n : ℕ) → ((qs : List OwnCell) → h (soonest_of s qs) ≡ least_of g n qs)
      → (gs : List (Vec (Cell M))) → least_of (λ (x : Soonest). Some (h x)) n (soon_in f s gs) ≡ least_of g n (own_cells f (all_in gs))
  least_of_groups g h n is [] = refl
  least_of_groups g h n is (v ∷ gs) =
      (λ i. min (least_of_groups g h n is gs i) (is (own_cells f v.items) i))
      ∙ sym (ap (least_of g n) (map-append (own_cell f) v.items (all_in gs))
      ∙ least_append g n (own_cells f v.items) (own_cells f (all_in gs)))

  module _ (gs : List (Vec (Cell M))) (w : World) (order : AreInOrder f (all_in gs)) (shown : plain_cells f (all_in gs) ≡ w.cells)
    where
      -- when the next window begins
      pub begins_at : first_time s.traffic.until (soon_in f s gs) ≡ min s.traffic.until (start_of s w)
      begins_at =
          least_of_groups due (λ (x : Soonest). x.time) s.traffic.until (λ qs. refl) gs
          ∙ ap (least_of due s.traffic.until) (own_all f (all_in gs) w.cells order shown)
          ∙ sym (time_is_least s.traffic.until 0 w.cells)

      -- before which no packet arrives that is yet to be sent
      pub promised_by : first_promise s.traffic.until (soon_in f s gs) ≡ promise_end s w
      promised_by =
          least_of_groups (promised s) (λ (x : Soonest). x.promise) s.traffic.until (λ qs. refl) gs
          ∙ ap (least_of (promised s) s.traffic.until) (own_all f (all_in gs) w.cells order shown)
          ∙ sym (promise_is_least s 0 w.cells)

-- ---- one cell after the other

module _ {M : Type 0} (f : M → Record) (s : Setting) where
  -- how soon something is due in one cell more
  pub soon_more : (i : ℕ) (cs : List (Cell M)) (k : ℕ) (c : Cell M) (x y : Soonest) (next way : Option ℕ) → AreFrom f i cs
      → slice_get cs k ≡ Some c → IsNextTime f c next → way ≡ way_of s (i + k) → y.time ≡ least_with x.time next
      → y.promise ≡ least_with x.promise (promise_by next way) → x ≡ soonest_of s (take k (own_cells f cs))
      → y ≡ soonest_of s (take (k + 1) (own_cells f cs))
  soon_more i cs k c x y next way from at n w t r is =
      let qs = own_cells f cs in
      let q = own_cell f c in
      let own = map_get (own_cell f) cs k c at in
      let lt = slice_get_within qs k q own in
      let here : get_or qs k q ≡ q = same_Some (get_or qs k q) q (sym (slice_get-get_or qs k q lt) ∙ own) in
      let due_is = n (sound_at f i cs k c from at) in
      let way_is = w ∙ ap (way_of s) (sym (number_at f i cs k c from at)) in
      λ j. record {
        time = (t ∙ (λ m. least_with x.time (due_is m)) ∙ ap (λ o. least_with x.time (due o)) (sym here)
            ∙ least_so_far due s.traffic.until qs k q x.time lt (ap (λ (z : Soonest). z.time) is)) j;
        promise = (r ∙ (λ m. least_with x.promise (promise_by (due_is m) (way_is m)))
            ∙ ap (λ o. least_with x.promise (promised s o)) (sym here)
            ∙ least_so_far (promised s) s.traffic.until qs k q x.promise lt (ap (λ (z : Soonest). z.promise) is)) j;
      }

  -- and in all
  pub soon_all : (cs : List (Cell M)) (k : ℕ) (x : Soonest) → length cs ≤ k → x ≡ soonest_of s (take k (own_cells f cs))
      → x ≡ soonest_of s (own_cells f cs)
  soon_all cs k x past is =
      let long = length-map cs (own_cell f) in
      is ∙ ap (soonest_of s) (take_all k (own_cells f cs) (omega arith))

-- ---- groups in which nothing was due

module _ {M : Type 0} (f : M → Record) (till n : ℕ) where
  -- a cell in which nothing is due before the end is as it was
  idle_cell : (c d : Cell M) (rows : List Row) → RanAlone f till c rows d → ((u : ℕ) → due (own_cell f c) ≡ Some u → till ≤ u)
      → own_cell f c ≡ own_cell f d
  idle_cell c d rows h late =
      let idle = idle_step till c.number (plain_cell f c) (none_due till (event_of f c) late) in
      let same = h.run.leaves ∙ after_idle till c.number h.run.steps (plain_cell f c) idle in
      λ k. record { member = sym h.on.1 k; cell = sym same k }

  pub none_less : (q : OwnCell) (qs : List OwnCell) → till ≤ least_of due n (q ∷ qs)
      → (till ≤ least_of due n qs) × ((u : ℕ) → due q ≡ Some u → till ≤ u)
  none_less q qs late = (
    (let le = least_with_le (least_of due n qs) (due q) in omega arith),
    λ u e. let le = least_with_in (least_of due n qs) u (due q) e in omega arith,
  )

  pub idle_cells : (cs : List (Cell M)) (lists : List (List Row)) (ds : List (Cell M)) → RanEach f till cs lists ds
      → till ≤ least_of due n (own_cells f cs) → own_cells f cs ≡ own_cells f ds
  idle_cells [] [] [] h late = refl
  idle_cells [] [] (d ∷ ds) h late = absurd h
  idle_cells [] (l ∷ lists) ds h late = absurd h
  idle_cells (c ∷ cs) [] ds h late = absurd h
  idle_cells (c ∷ cs) (l ∷ lists) [] h late = absurd h
  idle_cells (c ∷ cs) (l ∷ lists) (d ∷ ds) h late =
      let r = none_less (own_cell f c) (own_cells f cs) late in
      let first = idle_cell c d l h.0 r.1 in
      let more = idle_cells cs lists ds h.1 r.0 in
      λ k. first k ∷ more k
