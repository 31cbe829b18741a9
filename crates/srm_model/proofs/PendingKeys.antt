-- No two pending events of a world of the sequential run have one key, and what an event creates is later.
use Rattle.std.proofs.Common.{◌≡◌, ℕ, zero, suc, ◌<◌, ◌≤◌, ◌+◌, List, [], ◌∷◌, ◌++◌, map, refl, sym, ap, ◌∙◌, subst, ◌⊎◌, inl, inr, arith}
use Rattle.std.proofs.Common.{Some, slice_get, add-zero, zero-add, le_refl, Contains}
use Rattle.std.proofs.lemmas.List.Elements.{All-contains, All-contains_itself}
use Rattle.srm_net.specs.declared.key.Key.{Key}
use Rattle.srm_member.specs.declared.row.Row.{Row}
use Rattle.srm_member.proofs.AllIn.{AllIn, AllIn-append, AllIn-at_places, AllIn-each, AllIn-first, AllIn-map, AllIn-places, AllIn-second}
use Rattle.srm_member.proofs.AllIn.{AllIn-unmap, AllIn-weaker}
use Rattle.srm_cell.specs.Setting.{Setting, IsFit}
use Rattle.srm_cell.specs.Cells.{PlainCell, Event, arrival_key, mark_key, timer_key, pending_keys, DiffersFrom, AllDiffer, next_event}
use Rattle.srm_cell.specs.Cells.{before, StepOutcome, Idle, Full, Spent, Done, Stepped, step_at}
use Rattle.srm_cell.proofs.CellSteps.{some_not_idle}
use Rattle.srm_cell.proofs.Rising.{OnEvent, before_on, OnStep, Above, IsAbove, next_above, step_above}
use Rattle.srm_cell.proofs.Clear.{differ_member}
use Rattle.srm_cell.proofs.CellKeys.{not_same, all_differ_append, cell_keys_differ}
use Rattle.srm_model.specs.World.{World, cells_after, after_step, least_event, step, run, opening}
use Rattle.srm_model.specs.Laws.{keys_from, PendingKeysDiffer, CreatedEventsAreLater}
use Rattle.srm_model.proofs.RunLemmas.{Seq, rest, next, shifted, step_is, after_stepped, after_full, after_spent}
use Rattle.srm_model.proofs.Sequential.{Good, step_facts, good_step, above_step, run_seq, good_opening, good_reached}
use Rattle.srm_model.proofs.StrictRuns.{Strict, strict_step, strict_opening}
use Rattle.srm_model.proofs.Settled.{EachCell}
use Rattle.srm_cell.specs.Cells.{timers_in}

-- ---- keys of different cells

member_keys : (m : ℕ) (c : PlainCell) → AllIn (λ k. k.member ≡ m) (pending_keys m c)
member_keys m c = AllIn-append (λ (k : Key). k.member ≡ m) (map (arrival_key m) c.inbox)
    (map (mark_key m) c.script ++ map (timer_key m) (timers_in c.holds))
    (AllIn-map (λ (k : Key). k.member ≡ m) (arrival_key m) c.inbox (AllIn-each _ (λ f. refl) c.inbox))
    (AllIn-append (λ (k : Key). k.member ≡ m) (map (mark_key m) c.script) (map (timer_key m) (timers_in c.holds))
    (AllIn-map (λ (k : Key). k.member ≡ m) (mark_key m) c.script (AllIn-each _ (λ f. refl) c.script))
    (AllIn-map (λ (k : Key). k.member ≡ m) (timer_key m) (timers_in c.holds) (AllIn-each _ (λ f. refl) (timers_in c.holds))))

members_from : (i : ℕ) (cs : List PlainCell) → AllIn (λ k. i ≤ k.member) (keys_from i cs)
members_from i [] = tt
members_from i (c ∷ cs) = AllIn-append (λ (k : Key). i ≤ k.member) (pending_keys i c) (keys_from (suc i) cs)
    (AllIn-weaker (λ (k : Key). k.member ≡ i) (λ (k : Key). i ≤ k.member) (λ k h. omega arith) (pending_keys i c) (member_keys i c))
    (AllIn-weaker (λ (k : Key). suc i ≤ k.member) (λ (k : Key). i ≤ k.member) (λ k h. omega arith) (keys_from (suc i) cs)
    (members_from (suc i) cs))

above_differs : (i : ℕ) (k : Key) → k.member ≡ i → (ks : List Key) → AllIn (λ l. suc i ≤ l.member) ks → DiffersFrom k ks
above_differs i k h [] a = tt
above_differs i k h (l ∷ ls) a = (not_same k l (differ_member k l (λ e. let le = a.0 in omega arith)), above_differs i k h ls a.1)

all_keys_differ : (i : ℕ) (cs : List PlainCell) → ((j : ℕ) (c : PlainCell) → slice_get cs j ≡ Some c → AllDiffer (pending_keys (i + j) c))
    → AllDiffer (keys_from i cs)
all_keys_differ i [] h = tt
all_keys_differ i (c ∷ cs) h = all_differ_append (pending_keys i c) (keys_from (suc i) cs)
    (rw add-zero at (h 0 c refl))
    (all_keys_differ (suc i) cs (λ j b g. rw (shifted i j) at (h (suc j) b g)))
    (AllIn-weaker (λ (k : Key). k.member ≡ i) (λ k. DiffersFrom k (keys_from (suc i) cs))
    (λ k e. above_differs i k e (keys_from (suc i) cs) (members_from (suc i) cs)) (pending_keys i c) (member_keys i c))

module _ (s : Setting) (fit : IsFit s) where
  strict_seq : {till : ℕ} {cs ds : List PlainCell} {rows : List Row} → Seq s till cs rows ds → Good s fit cs → Strict s fit cs
      → Strict s fit ds
  strict_seq rest good strict = strict
  strict_seq {till} (next {cs = cs} {e = e} {d = d} h x more) good strict =
      strict_seq more (good_step s fit till cs e d good h x) (strict_step s fit till cs e d good strict h x)

  pub strict_reached : (n : ℕ) (w : World) → run s n (opening s) ≡ Done w → Strict s fit w.cells
  strict_reached n w h = strict_seq (run_seq s fit n (opening s) w h).1 (good_opening s fit) (strict_opening s fit)

pub pending_keys_differ : PendingKeysDiffer
pending_keys_differ s w fit reached =
    let good = good_reached s fit reached.0 w reached.1 in
    let strict = strict_reached s fit reached.0 w reached.1 in
    all_keys_differ 0 w.cells (λ j c g. rw zero-add (cell_keys_differ j c (strict.distinct j c g) (good.sound j c g)))

-- ---- what an event creates

module _ (P : Key → Type 0) where
  cell_above : (m : ℕ) (c : PlainCell) → AllIn P (pending_keys m c) → Above P m c
  cell_above m c h = grind (arith, AllIn-second, AllIn-unmap, AllIn-first)

  above_keys : (m : ℕ) (c : PlainCell) → Above P m c → AllIn P (pending_keys m c)
  above_keys m c a = AllIn-append P (map (arrival_key m) c.inbox) (map (mark_key m) c.script ++ map (timer_key m) (timers_in c.holds))
      (AllIn-map P (arrival_key m) c.inbox a.flights)
      (AllIn-append P (map (mark_key m) c.script) (map (timer_key m) (timers_in c.holds)) (AllIn-map P (mark_key m) c.script a.marks)
      (AllIn-map P (timer_key m) (timers_in c.holds) a.dues))

  pub each_above : (i : ℕ) (cs : List PlainCell) → AllIn P (keys_from i cs) → (j : ℕ) (c : PlainCell) → slice_get cs j ≡ Some c
      → Above P (i + j) c
  each_above i [] h j c g = let y : ⊥ = cc in absurd y
  each_above i (x ∷ cs) h zero c g =
      let same : x ≡ c = cc in
      rw add-zero (subst (Above P i) same (cell_above i x (AllIn-first P (pending_keys i x) (keys_from (suc i) cs) h)))
  each_above i (x ∷ cs) h (suc j) c g = rw (shifted i j)
      (each_above (suc i) cs (AllIn-second P (pending_keys i x) (keys_from (suc i) cs) h) j c g)

  pub all_above_keys : (i : ℕ) (cs : List PlainCell) → ((j : ℕ) (c : PlainCell) → slice_get cs j ≡ Some c → Above P (i + j) c)
      → AllIn P (keys_from i cs)
  all_above_keys i [] h = tt
  all_above_keys i (c ∷ cs) h = AllIn-append P (pending_keys i c) (keys_from (suc i) cs) (above_keys i c (rw add-zero at (h 0 c refl)))
      (all_above_keys (suc i) cs (λ j b g. rw (shifted i j) at (h (suc j) b g)))

  -- where P holds of later keys, and of all that is pending before a step, it holds of all that is pending after it
  kept_above : (s : Setting) (fit : IsFit s) (cs : List PlainCell) (e : Event) (d : Stepped) → Good s fit cs
      → before s.traffic.until (least_event 0 cs) ≡ Some e → step_at (Some e) ≡ Done d
      → ((k : Key) → e.key.time < k.time → P k) → EachCell (Above P) cs → EachCell (Above P) (cells_after s e.key.member d 0 cs)
  kept_above s fit cs e d good h x later all =
      let f = step_facts s fit s.traffic.until cs e d h x in
      let m = e.key.member in
      let a = subst (OnEvent (IsAbove P m)) f.event (before_on (IsAbove P m) s.traffic.until (next_event m f.cell)
      (next_above P m f.cell (all m f.cell f.here))) in
      above_step s fit s.traffic.until P cs e d good h x later
      (subst (OnStep (λ d. Above P m d.cell)) x (step_above P m e.key.time later e refl a.1)) (λ j c g ne. all j c g)

-- the cells after a step that is made
step_cells : (s : Setting) (w v : World) (e : Event) → before s.traffic.until (least_event 0 w.cells) ≡ Some e → step s w ≡ Done v
    → (d : Stepped) × (step_at (Some e) ≡ Done d) × (v.cells ≡ cells_after s e.key.member d 0 w.cells)
step_cells s w v e h done =
    let within = le_refl s.traffic.until in
    let is = λ (o : StepOutcome Stepped) (x : step_at (Some e) ≡ o). sym
    (step_is s s.traffic.until within w e h ∙ ap (after_step s w e.key.member) x) ∙ done in
    elim (step_at (Some e)) as (λ o. step_at (Some e) ≡ o → (d : Stepped)
    × (step_at (Some e) ≡ Done d) × (v.cells ≡ cells_after s e.key.member d 0 w.cells)) [
      | Idle ↦ λ x. absurd (some_not_idle e x)
      | Full ↦ λ x. let y : Full ≡ Done v = sym (after_full s s.traffic.until within w e.key.member) ∙ is Full x in let z : ⊥ = cc in
          absurd z
      | Spent ↦ λ x. let y : Spent ≡ Done v = sym (after_spent s s.traffic.until within w e.key.member) ∙ is Spent x in let z : ⊥ = cc in
          absurd z
      | Done d ↦ λ x.
          let u : World = record { cells = cells_after s e.key.member d 0 w.cells; trace = w.trace ++ d.row ∷ [] } in
          let y : ◌≡◌ {A = StepOutcome World} (Done u) (Done v) = sym (after_stepped s s.traffic.until within w e.key.member d)
          ∙ is (Done d) x in
          let same : u ≡ v = cc in
          (d, x, ap (λ (b : World). b.cells) (sym same))
    ] refl

pub created_events_are_later : CreatedEventsAreLater
created_events_are_later s w v e fit reached h done k has =
    let good = good_reached s fit reached.0 w reached.1 in
    let P : Key → Type 0 = λ l. (e.key.time < l.time) ⊎ Contains (keys_from 0 w.cells) l in
    let st = step_cells s w v e h done in
    let were : AllIn P (keys_from 0 w.cells) = AllIn-at_places P (keys_from 0 w.cells)
    (λ n l lt. inr (All-contains_itself (keys_from 0 w.cells) n l lt)) in
    let before_it : EachCell (Above P) w.cells = λ j c g. rw zero-add at (each_above P 0 w.cells were j c g) in
    let after_it = kept_above P s fit w.cells e st.0 good h st.1 (λ l lt. inl lt) before_it in
    let all : AllIn P (keys_from 0 v.cells) = all_above_keys P 0 v.cells
    (λ j c g. rw zero-add (after_it j c (ap (λ cs. slice_get cs j) (sym st.2) ∙ g))) in
    All-contains P (keys_from 0 v.cells) k (AllIn-places P (keys_from 0 v.cells) all) has
