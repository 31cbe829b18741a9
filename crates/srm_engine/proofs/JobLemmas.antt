-- Jobs as crews are handed them, and what is done of them.
use Rattle.std.proofs.Common.{◌≡◌, ℕ, zero, suc, ◌+◌, ◌<◌, ◌≤◌, ◌⊎◌, inl, inr, List, [], ◌∷◌, ◌++◌, length, take, drop, map, Some}
use Rattle.std.proofs.Common.{refl, sym, ap, ◌∙◌, subst, arith, slice_get, zero-add, add-one, All, length-append, append-nil, take_all}
use Rattle.std.proofs.Common.{IsPermutation}
use Rattle.std.proofs.Math.Seq.{take-append_seam, drop-append_seam}
use Rattle.std.specs.List.{range_with_len}
use Rattle.std.proofs.lemmas.List.{take-append-drop, length-map, map-append, drop_all}
use Rattle.std.proofs.lemmas.List.Elements.{All-nil, All-cons}
use Rattle.std.specs.Global.{Vec}
use Rattle.srm_net.specs.Network.{Network}
use Rattle.srm_scenario.specs.Plain.{PlainScenario}
use Rattle.srm_member.specs.declared.row.Row.{Row}
use Rattle.srm_member.specs.Record.{Record}
use Rattle.srm_ledger.specs.Seats.{LedgerView, SeatView}
use Rattle.srm_cell.specs.declared.cell.Cell.{Cell}
use Rattle.srm_cell.specs.declared.job.Job.{Job}
use Rattle.srm_cell.specs.declared.job.Done as job
use Rattle.srm_cell.specs.Setting.{Traffic, Setting}
use Rattle.srm_cell.specs.Cells.{OwnCell, PlainCell, StepOutcome, Stepped}
use Rattle.srm_cell.specs.OwnRuns.{own_end}
use Rattle.srm_cell.specs.Crossings.{joined, crossings}
use Rattle.srm_cell.specs.Jobs as cell
use Rattle.srm_cell.specs.Jobs.{AreSound, RanEach, own_cells}
use Rattle.srm_cell.specs.Views.{IsSoundCell, own_cell, plain_cell}
use Rattle.srm_cell.proofs.CrossingLemmas.{crossings_add}
use Rattle.srm_cell.proofs.RowPackets.{joined-append}
use Rattle.srm_interfaces.specs.Crews.{AnyEnds, AreDone, HasGrown, counted_in, plain_jobs, rows_of}
use Rattle.srm_interfaces.proofs.Sums.{crossings_long, word_of_added}
use Rattle.srm_model.specs.World.{World}
use Rattle.srm_model.specs.WindowRuns.{OwnResult, AreRunsOf, cells_from, rows_in, cells_in, jobs_within, jobs_from, jobs_of}
use Rattle.srm_engine.specs.Seen.{AreFrom, plain_cells}
use Rattle.srm_engine.specs.Groups.{AreCuts, RanGroups, sizes, all_in, jobs_with, groups_of, lists_of, some_of}
use Rattle.srm_engine.specs.Windowed.{IsCounted}
use Rattle.srm_model.proofs.WindowJobs.{own_cell_at, jobs_are_runs, crossings_keep, get_first, get_second}
use Rattle.srm_engine.proofs.CellLists.{both_from, first_cut, no_more_groups, own_from}
use Rattle.srm_net.specs.Limits.{end_of_time}

-- ---- cells with their members

of_members : (n i : ℕ) (cs : List PlainCell) → i + length cs ≤ n → cell.AreMembers n (cells_from i cs)
of_members n i [] le = tt
of_members n i (c ∷ cs) le = (omega arith, of_members n (suc i) cs (omega arith))

abbrev job_at : ℕ → ℕ → List OwnCell → cell.PlainJob
job_at place till qs = record { place = place; till = till; cells = qs }

-- the first cells, where they are `cut`, or are fewer and all
first_cells : (cut : ℕ) (qs more : List OwnCell) → (length qs ≡ cut) ⊎ ((length qs ≤ cut) × (more ≡ []))
    → (take cut (qs ++ more) ≡ qs) × (drop cut (qs ++ more) ≡ more)
first_cells cut qs more (inl e) = (
  ap (λ n. take n (qs ++ more)) (sym e) ∙ take-append_seam qs more,
  ap (λ n. drop n (qs ++ more)) (sym e) ∙ drop-append_seam qs more,
)
first_cells cut qs more (inr h) =
    let none : qs ++ more ≡ qs = ap (λ l. qs ++ l) h.1 ∙ append-nil qs in (
      ap (take cut) none ∙ take_all cut qs h.0,
      ap (drop cut) none ∙ drop_all cut qs h.0 ∙ sym h.1,
    )

-- they are those of the first job
first_job : (cut till place : ℕ) (qs more : List OwnCell) → 0 < cut → 0 < length qs
    → (length qs ≡ cut) ⊎ ((length qs ≤ cut) × (more ≡ []))
    → jobs_from cut till place (qs ++ more) ≡ job_at place till qs ∷ jobs_from cut till (suc place) more
first_job cut till place [] more pos some whole = absurd (omega arith)
first_job cut till place (q ∷ qs) more pos some whole =
    let r = first_cells cut (q ∷ qs) more whole in
    (jobs_are_runs cut till place pos).1 q (qs ++ more)
    ∙ (λ k. job_at place till (r.0 k) ∷ jobs_from cut till (suc place) (r.1 k))

-- one of the cells has an own run that ends with this
abbrev SomeEnds : StepOutcome Stepped → ℕ → List OwnCell → Type 0
SomeEnds o till qs = (j : ℕ) × (q : OwnCell) × (slice_get qs j ≡ Some q) × ((n : ℕ) × (own_end till q.member n q.cell ≡ o))

some_cell : (o : StepOutcome Stepped) (till : ℕ) (qs : List OwnCell) → cell.FirstEnds o till qs → SomeEnds o till qs
some_cell o till [] h = absurd h
some_cell o till (q ∷ qs) (inl h) = (0, q, refl, h)
some_cell o till (q ∷ qs) (inr h) = let r = some_cell o till qs h.1 in (suc r.0, r.1, r.2, r.3)

some_job : (o : StepOutcome Stepped) (k cut till place : ℕ) (qs : List OwnCell) → AnyEnds o (jobs_within k cut till place qs)
    → SomeEnds o till qs
some_job o k cut till place [] h = absurd h
some_job o zero cut till place (q ∷ qs) h = absurd h
some_job o (suc k) cut till place (q ∷ qs) (inl h) =
    let all = q ∷ qs in
    let r = some_cell o till (take cut all) h in (
      r.0,
      r.1,
      subst (λ l. slice_get l r.0 ≡ Some r.1) (take-append-drop cut all) (get_first (take cut all) (drop cut all) r.0 r.1 r.2),
      r.3,
    )
some_job o (suc k) cut till place (q ∷ qs) (inr h) =
    let all = q ∷ qs in
    let r = some_job o k cut till (suc place) (drop cut all) h in (
      length (take cut all) + r.0,
      r.1,
      subst (λ l. slice_get l (length (take cut all) + r.0) ≡ Some r.1) (take-append-drop cut all)
          (get_second (take cut all) (drop cut all) r.0 ∙ r.2),
      r.3,
    )

pub any_cell : (o : StepOutcome Stepped) (cut till : ℕ) (w : World) → AnyEnds o (jobs_of cut till w)
    → (m : ℕ) × (c : PlainCell) × (slice_get w.cells m ≡ Some c) × ((n : ℕ) × (own_end till m n c ≡ o))
any_cell o cut till w h =
    let all = cells_from 0 w.cells in
    let r = some_job o (length all) cut till 0 all h in
    let own = own_cell_at 0 w.cells r.0 r.1 r.2 in
    let whose : own_end till (0 + r.0) r.3.0 own.0 ≡ o =
    subst (λ (q : OwnCell). own_end till q.member r.3.0 q.cell ≡ o) (sym own.2) r.3.1 in
    (r.0, own.0, own.1, (r.3.0, subst (λ m. own_end till m r.3.0 own.0 ≡ o) (zero-add r.0) whose))

module _ {M : Type 0} (f : M → Record) where
  -- ---- jobs of groups

  -- as they are seen, they are jobs of runs of `cut` of all cells
  pub seen_jobs : (cut till place : ℕ) (gs : List (Vec (Cell M))) → 0 < cut → AreCuts cut (sizes gs)
      → plain_jobs f (jobs_with till place gs) ≡ jobs_from cut till place (own_cells f (all_in gs))
  seen_jobs cut till place [] pos cuts = refl
  seen_jobs cut till place (g ∷ gs) pos cuts =
      let a = first_cut cut (length g.items) (sizes gs) pos cuts in
      let own = own_cells f g.items in
      let more = own_cells f (all_in gs) in
      let long = length-map g.items (own_cell f) in
      let some = a.some in
      ap (λ l. job_at place till own ∷ l) (seen_jobs cut till (suc place) gs pos a.others)
      ∙ sym (ap (jobs_from cut till place) (map-append (own_cell f) g.items (all_in gs))
      ∙ first_job cut till place own more pos (omega arith) (whole a.full))
    where
      whole : (length g.items ≡ cut) ⊎ (sizes gs ≡ [])
          → (length (own_cells f g.items) ≡ cut) ⊎ ((length (own_cells f g.items) ≤ cut) × (own_cells f (all_in gs) ≡ []))
      whole (inl e) = inl (length-map g.items (own_cell f) ∙ e)
      whole (inr none) =
          let long = length-map g.items (own_cell f) in
          let most = (first_cut cut (length g.items) (sizes gs) pos cuts).most in
          inr (omega arith, ap (λ l. own_cells f (all_in l)) (no_more_groups gs none))

  pub may_advance : (cut till n place i : ℕ) (gs : List (Vec (Cell M))) → 0 < cut → cut ≤ 1024 → till ≤ end_of_time
      → AreFrom f i (all_in gs) → i + length (all_in gs) ≤ n → AreCuts cut (sizes gs)
      → All (λ (j : Job M). cell.MayAdvance f n j) (jobs_with till place gs)
  may_advance cut till n place i [] pos few small h le cuts = All-nil (λ (j : Job M). cell.MayAdvance f n j)
  may_advance cut till n place i (g ∷ gs) pos few small h le cuts =
      let a = first_cut cut (length g.items) (sizes gs) pos cuts in
      let parts = both_from f i g.items (all_in gs) h in
      let both = length-append g.items (all_in gs) in
      let long = length-map g.items (plain_cell f) in
      let most = a.most in
      All-cons (λ (j : Job M). cell.MayAdvance f n j) (record { place = place; till = till; cells = g }) (jobs_with till (suc place) gs)
      (record {
        sound = parts.0.sound;
        till = small;
        few = omega arith;
        of_members = subst (cell.AreMembers n) (sym (own_from f i g.items parts.0)) (of_members n i (plain_cells f g.items) (omega arith));
      })
      (may_advance cut till n (suc place) (i + length g.items) gs pos few small parts.1 (omega arith) a.others)

  pub as_many_jobs : (till place : ℕ) (gs : List (Vec (Cell M))) → length (jobs_with till place gs) ≡ length gs
  as_many_jobs till place [] = refl
  as_many_jobs till place (g ∷ gs) = ap suc (as_many_jobs till (suc place) gs)

  pub places_with : (till place : ℕ) (gs : List (Vec (Cell M))) → map (λ (j : Job M). j.place) (jobs_with till place gs)
      ≡ range_with_len place (length gs)
  places_with till place [] = refl
  places_with till place (g ∷ gs) = ap (λ l. place ∷ l) (places_with till (suc place) gs
      ∙ ap (λ m. range_with_len m (length gs)) (sym (add-one place)))

  -- ---- what is done

  ran_append : (till : ℕ) (cs more : List (Cell M)) (ls ms : List (List Row)) (ds after : List (Cell M))
      → RanEach f till cs ls ds → RanEach f till more ms after → RanEach f till (cs ++ more) (ls ++ ms) (ds ++ after)
  ran_append till [] more [] ms [] after h g = g
  ran_append till [] more [] ms (d ∷ ds) after h g = absurd h
  ran_append till [] more (l ∷ ls) ms ds after h g = absurd h
  ran_append till (c ∷ cs) more [] ms ds after h g = absurd h
  ran_append till (c ∷ cs) more (l ∷ ls) ms [] after h g = absurd h
  ran_append till (c ∷ cs) more (l ∷ ls) ms (d ∷ ds) after h g = (h.0, ran_append till cs more ls ms ds after h.1 g)

  ran_many : (till : ℕ) (cs : List (Cell M)) (ls : List (List Row)) (ds : List (Cell M)) → RanEach f till cs ls ds
      → length cs ≡ length ds
  ran_many till [] [] [] h = refl
  ran_many till [] [] (d ∷ ds) h = absurd h
  ran_many till [] (l ∷ ls) ds h = absurd h
  ran_many till (c ∷ cs) [] ds h = absurd h
  ran_many till (c ∷ cs) (l ∷ ls) [] h = absurd h
  ran_many till (c ∷ cs) (l ∷ ls) (d ∷ ds) h = ap suc (ran_many till cs ls ds h.1)

  -- cells that ran, as own results
  pub record Results (till : ℕ) (cs : List (Cell M)) (lists : List (List Row)) (ds : List (Cell M)) : Type 0 where
    pub results : List OwnResult
    pub alone : AreRunsOf till (own_cells f cs) results
    pub shown : plain_cells f ds ≡ cells_in results
    pub rows : lists ≡ rows_in results
    pub sound : AreSound f ds
    pub numbers : map (λ (c : Cell M). c.number) ds ≡ map (λ (c : Cell M). c.number) cs

  own_results : (till : ℕ) (cs : List (Cell M)) (lists : List (List Row)) (ds : List (Cell M)) → RanEach f till cs lists ds
      → Results till cs lists ds
  own_results till [] [] [] h = record {
    results = [];
    alone = tt;
    shown = refl;
    rows = refl;
    sound = All-nil (IsSoundCell f);
    numbers = refl;
  }
  own_results till [] [] (d ∷ ds) h = absurd h
  own_results till [] (l ∷ lists) ds h = absurd h
  own_results till (c ∷ cs) [] ds h = absurd h
  own_results till (c ∷ cs) (l ∷ lists) [] h = absurd h
  own_results till (c ∷ cs) (l ∷ lists) (d ∷ ds) h =
      let more = own_results till cs lists ds h.1 in record {
        results = record { rows = l; cell = plain_cell f d } ∷ more.results;
        alone = (h.0.run, more.alone);
        shown = ap (λ ps. plain_cell f d ∷ ps) more.shown;
        rows = ap (λ ls. l ∷ ls) more.rows;
        sound = All-cons (IsSoundCell f) d ds h.0.on.0 more.sound;
        numbers = (λ k. h.0.on.1 k ∷ more.numbers k);
      }

  module _ (k : PlainScenario) (net : Network) (till : ℕ) where
    -- what the jobs' cells ran, job after job, all cells ran
    ran_all : (place : ℕ) (gs : List (Vec (Cell M))) (ds : List (job.Done M)) → AreDone f k net (jobs_with till place gs) ds
        → RanEach f till (all_in gs) (lists_of ds) (all_in (groups_of ds))
    ran_all place [] [] h = tt
    ran_all place [] (d ∷ ds) h = absurd h
    ran_all place (g ∷ gs) [] h = absurd h
    ran_all place (g ∷ gs) (d ∷ ds) h =
        ran_append till g.items (all_in gs) d.rows.items (lists_of ds) d.cells.items (all_in (groups_of ds)) h.0.runs
        (ran_all (suc place) gs ds h.1)

    -- so each group
    pub ran_groups : (place : ℕ) (gs : List (Vec (Cell M))) (ds : List (job.Done M)) → AreDone f k net (jobs_with till place gs) ds
        → RanGroups f till gs (groups_of ds)
    ran_groups place [] [] h = tt
    ran_groups place [] (d ∷ ds) h = absurd h
    ran_groups place (g ∷ gs) [] h = absurd h
    ran_groups place (g ∷ gs) (d ∷ ds) h = ((d.rows.items, h.0.runs), ran_groups (suc place) gs ds h.1)

    -- the results of a window's jobs, as they were done
    pub job_results : (gs : List (Vec (Cell M))) (ds : List (job.Done M)) → AreDone f k net (jobs_with till 0 gs) ds
        → Results till (all_in gs) (lists_of ds) (all_in (groups_of ds))
    job_results gs ds h = own_results till (all_in gs) (lists_of ds) (all_in (groups_of ds)) (ran_all 0 gs ds h)

  -- groups keep their sizes
  pub sizes_kept : (till : ℕ) (gs hs : List (Vec (Cell M))) → RanGroups f till gs hs → sizes gs ≡ sizes hs
  sizes_kept till [] [] h = refl
  sizes_kept till [] (v ∷ hs) h = absurd h
  sizes_kept till (g ∷ gs) [] h = absurd h
  sizes_kept till (g ∷ gs) (v ∷ hs) h =
      let first = ran_many till g.items h.0.0 v.items h.0.1 in
      let more = sizes_kept till gs hs h.1 in
      λ k. first k ∷ more k

  pub rows_joined : (ds : List (job.Done M)) → rows_of ds ≡ joined (lists_of ds)
  rows_joined [] = refl
  rows_joined (d ∷ ds) = ap (λ l. joined d.rows.items ++ l) (rows_joined ds) ∙ sym (joined-append d.rows.items (lists_of ds))

-- ---- rows

pub joined_some : {A : Type 0} (ls : List (List A)) → joined (some_of ls) ≡ joined ls
joined_some [] = refl
joined_some ([] ∷ ls) = joined_some ls
joined_some ((x ∷ xs) ∷ ls) = ap (λ l. (x ∷ xs) ++ l) (joined_some ls)

-- ---- crossings

word_joined : (t : Traffic) (qs rs : List Row) (k : ℕ) → counted_in (crossings t (qs ++ rs)) k
    ≡ counted_in (crossings t qs) k + counted_in (crossings t rs) k
word_joined t qs rs k = ap (λ ns. counted_in ns k) (crossings_add t qs rs) ∙
    word_of_added (crossings t qs) (crossings t rs) (crossings_long t qs ∙ sym (crossings_long t rs)) k

pub counted_more : (t : Traffic) (l : LedgerView) (trace rows more : List Row) (old new : SeatView) → IsCounted t l trace old
    → HasGrown (counted_in (crossings t rows)) old new → rows ≡ more → IsCounted t l (trace ++ more) new
counted_more t l trace rows more old new c g e = grind (arith, word_joined)

-- crossings do not depend on the order of new rows
pub counted_merged : (s : Setting) (l : LedgerView) (trace rows merged : List Row) (seat : SeatView) → IsPermutation rows merged
    → IsCounted s.traffic l (trace ++ rows) seat → IsCounted s.traffic l (trace ++ merged) seat
counted_merged s l trace rows merged seat h c = record {
  ledger = c.ledger;
  weight = c.weight;
  shares = λ k.
      c.shares k ∙ word_joined s.traffic trace rows k ∙ ap (λ ns. counted_in (crossings s.traffic trace) k + counted_in ns k)
      (crossings_keep s rows merged h) ∙ sym (word_joined s.traffic trace merged k);
}
