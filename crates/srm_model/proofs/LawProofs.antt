-- The laws.
use Rattle.std.proofs.Common.{ltb-false, suc-add, ◌≡◌, ℕ, zero, suc, ◌≤◌, ◌+◌, Bool, true, false, List, [], ◌∷◌, ◌++◌, length, drop, refl}
use Rattle.std.proofs.Common.{sym, ap, ◌∙◌, subst, ◌⊎◌, inl, inr, arith, Option, Some, None, slice_get, ◌==◌, eqb-true, eq-eqb, cond}
use Rattle.std.proofs.Common.{option_map, nat_lt, add-zero, zero-add, append_assoc, append-nil, le_refl, ◌≢◌}
use Rattle.std.proofs.lemmas.Bool.{eqb-false, ne_eqb}
use Rattle.std.proofs.Math.Seq.{drop-append_seam}
use Rattle.srm_cell.proofs.CellLemmas.{keep, outcome_map, stepped_map}
use Rattle.srm_cell.proofs.CellSteps.{SentBy, before_some, some_not_idle, told_late}
use Rattle.srm_cell.proofs.Leaving.{own_never_spent}
use Rattle.srm_cell.proofs.OwnRunLemmas.{after_by, after_done, after_first, end_by, end_first, end_now, rows_done}
use Rattle.srm_cell.proofs.OwnRunsEnd.{own_run_ends}
use Rattle.srm_cell.specs.Cells.{Done, Event, Full, Idle, PlainCell, Spent, StepOutcome, Stepped, before, hear, own_step, step_at}
use Rattle.srm_cell.specs.OwnRuns.{hear_rows, own_after, own_end, own_rows, told_to}
use Rattle.srm_cell.specs.Setting.{IsFit, Setting, arrival_of}
use Rattle.srm_model.proofs.Departed.{Stable, least_not_spent, stable_opening, stable_reached, stable_seq}
use Rattle.srm_model.proofs.RunLemmas.{Ends, after_full, after_stepped, ending, fewer, full_flag, least_own, not_done, quiet_ends, run_by}
use Rattle.srm_model.proofs.RunLemmas.{run_first, seq_first, seq_refused, seq_run, seq_schedule, shifted, spent_flag, step_none}
use Rattle.srm_model.proofs.RunLemmas.{to_the_end, total}
use Rattle.srm_model.proofs.ScheduleLemmas.{Quiet, Safe, Sched, go, own_of_is, own_rows_late, safe_after, same_end, step_late}
use Rattle.srm_model.proofs.ScheduleLemmas.{stop, then_schedule}
use Rattle.srm_model.proofs.Sequential.{good_reached, promise_safe, seq_ordered, window_safe}
use Rattle.srm_model.proofs.Settled.{at_member, get_after}
use Rattle.srm_model.specs.Laws.{CellsRunAlone, NeverSpent, OwnRunsEnd, PromisesAreSafe, RefusalsAreMet, RunEnds, SchedulesAgree}
use Rattle.srm_model.specs.Laws.{WindowsAreSafe}
use Rattle.srm_member.specs.ByMember.{rows_of_member}
use Rattle.srm_model.specs.Schedules.{own_of, scheduled}
use Rattle.srm_model.specs.World.{World, after_step, least_event, opening, row_cmp, run, cells_after, step_of, step_to}
use Rattle.srm_member.specs.declared.row.Row.{Row}
use Rattle.srm_net.specs.Orders.{ordered}
use Rattle.srm_net.specs.declared.packet.Packet.{Packet}

-- ---- a schedule, as the steps of the cells

module _ (s : Setting) (till : ℕ) where
  scheduled_is : (ms : List ℕ) (w u : World) → scheduled s till ms w ≡ Done u → (rows : List Row) × Sched s till w.cells ms rows u.cells
      × (u.trace ≡ w.trace ++ rows)
  unfolding scheduled after_step then_schedule
  scheduled_is [] w u h = let e : w ≡ u = cc in (
    [],
    subst (λ (v : World). Sched s till w.cells [] [] v.cells) e stop,
    ap (λ (v : World). v.trace) (sym e) ∙ sym (append-nil w.trace),
  )
  scheduled_is (m ∷ ms) w u h = elim (own_of till m (slice_get w.cells m))
      as (λ o. own_of till m (slice_get w.cells m) ≡ o → (rows : List Row) × Sched s till w.cells (m ∷ ms) rows u.cells
      × (u.trace ≡ w.trace ++ rows)) [
        | Idle ↦ λ e. let x : Idle ≡ Done u = sym (ap (λ o. then_schedule s till ms (after_step s w m o)) e) ∙ h in cc
        | Full ↦ λ e. let x : Full ≡ Done u = sym (ap (λ o. then_schedule s till ms (after_step s w m o)) e) ∙ h in cc
        | Spent ↦ λ e. let x : Spent ≡ Done u = sym (ap (λ o. then_schedule s till ms (after_step s w m o)) e) ∙ h in cc
        | Done d ↦ λ e.
            let v : World = record { cells = cells_after s m d 0 w.cells; trace = w.trace ++ d.row ∷ [] } in
            let g = scheduled_is ms v u (sym (ap (λ o. then_schedule s till ms (after_step s w m o)) e) ∙ h) in
            (d.row ∷ g.0, go e g.1, g.2 ∙ append_assoc w.trace (d.row ∷ []) g.0)
      ] refl

  schedule_of : {cs ds : List PlainCell} {ms : List ℕ} {rows : List Row} → Sched s till cs ms rows ds → (t : List Row)
      → scheduled s till ms (record { cells = cs; trace = t }) ≡ Done (record { cells = ds; trace = t ++ rows })
  unfolding scheduled after_step then_schedule
  schedule_of (stop {cs = cs}) t = ap (λ (r : List Row). Done (record { cells = cs; trace = r })) (sym (append-nil t))
  schedule_of (go {cs = cs} {m = m} {ms = ms} {d = d} {rows = rows} {ds = ds} e more) t =
      let w : World = record { cells = cs; trace = t } in
      ap (λ o. then_schedule s till ms (after_step s w m o)) e ∙ schedule_of more (t ++ d.row ∷ [])
      ∙ ap (λ (r : List Row). Done (record { cells = ds; trace = r })) (append_assoc t (d.row ∷ []) rows)

  -- ---- each cell's own run alone

  after_late : (x : Option Packet) → ((p : Packet) → x ≡ Some p → (m at : ℕ) → arrival_of s.traffic p m ≡ Some at → till ≤ at)
      → (m n : ℕ) (c : PlainCell) → own_after till m n (told_to s.traffic x m c) ≡ told_to s.traffic x m (own_after till m n c)
  unfolding own_after
  after_late x late m zero c = refl
  after_late x late m (suc n) c =
      let step = λ (o : StepOutcome Stepped) (e : own_step till m c ≡ o). after_first till m n (told_to s.traffic x m c)
      ∙ ap (after_by till m n (told_to s.traffic x m c))
      (told_late s.traffic till m x late c ∙ ap (outcome_map (stepped_map (told_to s.traffic x m))) e) in
      let was = λ (o : StepOutcome Stepped) (e : own_step till m c ≡ o). ap
      (told_to s.traffic x m) (sym (after_first till m n c ∙ ap (after_by till m n c) e)) in
      elim (own_step till m c) as (λ o. own_step till m c ≡ o → own_after till m (suc n) (told_to s.traffic x m c)
      ≡ told_to s.traffic x m (own_after till m (suc n) c)) [
        | Idle ↦ λ e. step Idle e ∙ was Idle e
        | Full ↦ λ e. step Full e ∙ was Full e
        | Spent ↦ λ e. step Spent e ∙ was Spent e
        | Done d ↦ λ e. step (Done d) e ∙ after_late x late m n d.cell ∙ was (Done d) e
      ] refl

  -- a member does not hear itself
  not_heard : (m : ℕ) (x : Option Packet) (c : PlainCell) → SentBy m x → told_to s.traffic x m c ≡ c
  unfolding hear
  not_heard m x c h = grind arith

  end_map : (x : Option Packet) → ((p : Packet) → x ≡ Some p → (m at : ℕ) → arrival_of s.traffic p m ≡ Some at → till ≤ at)
      → (m n : ℕ) (c : PlainCell) → own_end till m n (told_to s.traffic x m c)
      ≡ outcome_map (stepped_map (told_to s.traffic x m)) (own_end till m n c)
  end_map x late m zero c = end_now till m (told_to s.traffic x m c) ∙ told_late s.traffic till m x late c
      ∙ ap (outcome_map (stepped_map (told_to s.traffic x m))) (sym (end_now till m c))
  end_map x late m (suc n) c =
      let step = λ (o : StepOutcome Stepped) (e : own_step till m c ≡ o). end_first till m n (told_to s.traffic x m c)
      ∙ ap (end_by till m n) (told_late s.traffic till m x late c ∙ ap (outcome_map (stepped_map (told_to s.traffic x m))) e) in
      let was = λ (o : StepOutcome Stepped) (e : own_step till m c ≡ o). ap (outcome_map (stepped_map (told_to s.traffic x m)))
      (sym (end_first till m n c ∙ ap (end_by till m n) e)) in
      elim (own_step till m c) as (λ o. own_step till m c ≡ o → own_end till m (suc n) (told_to s.traffic x m c)
      ≡ outcome_map (stepped_map (told_to s.traffic x m)) (own_end till m (suc n) c)) [
        | Idle ↦ λ e. step Idle e ∙ was Idle e
        | Full ↦ λ e. step Full e ∙ was Full e
        | Spent ↦ λ e. step Spent e ∙ was Spent e
        | Done d ↦ λ e. step (Done d) e ∙ end_map x late m n d.cell ∙ was (Done d) e
      ] refl

  from_idle : (f : Stepped → Stepped) (o : StepOutcome Stepped) → outcome_map f o ≡ Idle → o ≡ Idle
  from_idle f o h = grind arith

  abbrev pub Alone : ℕ → List Row → PlainCell → Option PlainCell → Type 0
  Alone m rows c o = (n : ℕ) × (own_end till m n c ≡ Idle) × (rows_of_member m rows ≡ own_rows till m n c)
      × (o ≡ Some (hear_rows s.traffic m rows (own_after till m n c)))

  alone : {cs ds : List PlainCell} {ms : List ℕ} {rows : List Row} → Sched s till cs ms rows ds → Quiet till ds → Safe s till cs
      → (m : ℕ) (c : PlainCell) → slice_get cs m ≡ Some c → Alone m rows c (slice_get ds m)
  unfolding own_rows own_after
  alone (stop {cs = cs}) quiet safe m c g = (0, end_now till m c ∙ (subst (λ o. own_of till m o ≡ Idle) g (quiet m)), refl, g)
  alone (go {cs = cs} {m = b} {ms = ms} {d = d} {rows = rows} {ds = ds} e more) quiet safe m c g =
      elim (m == b) as (λ x. (m == b) ≡ x → Alone m (d.row ∷ rows) c (slice_get ds m)) [
        | true ↦ λ mb.
            let own : own_step till m c ≡ Done d = sym (ap (own_of till m) g) ∙ ap (λ k. own_of till k (slice_get cs k)) (eqb-true _ _ mb)
            ∙ e in
            let is = own_of_is till b (slice_get cs b) d e in
            let here : slice_get (cells_after s b d 0 cs) m ≡ Some d.cell = get_after s b d m cs ∙ ap (option_map (at_member s b d m)) g
            ∙ ap (λ x. Some (cond x d.cell (told_to s.traffic d.row.sent m c))) mb in
            let mine : (d.row.key.member == m) ≡ true = eq-eqb _ _ (is.0 ∙ sym (eqb-true _ _ mb)) in
            let r = alone more quiet (safe_after s till cs safe b d e) m d.cell here in (
              suc r.0,
              end_first till m r.0 c ∙ ap (end_by till m r.0) own ∙ r.1,
              rw mine (ap (λ l. d.row ∷ l) r.2 ∙ sym (rows_done till m r.0 c d own)),
              r.3 ∙ ap (λ x. Some (hear_rows s.traffic m rows x))
                  (sym (not_heard m d.row.sent (own_after till m (suc r.0) c)
                  (subst (λ k. SentBy k d.row.sent) (sym (eqb-true _ _ mb)) is.1)
                  ∙ after_done till m r.0 c d own)),
            )
        | false ↦ λ mb.
            let is = own_of_is till b (slice_get cs b) d e in
            let late = step_late s till cs safe b d e in
            let here : slice_get (cells_after s b d 0 cs) m ≡ Some (told_to s.traffic d.row.sent m c) = get_after s b d m cs
            ∙ ap (option_map (at_member s b d m)) g ∙ ap (λ x. Some (cond x d.cell (told_to s.traffic d.row.sent m c))) mb in
            let other : (d.row.key.member == m) ≡ false = ne_eqb d.row.key.member m (λ q. eqb-false _ _ mb (sym q ∙ is.0)) in
            let r = alone more quiet (safe_after s till cs safe b d e) m (told_to s.traffic d.row.sent m c) here in (
              r.0,
              from_idle (stepped_map (told_to s.traffic d.row.sent m)) _ (sym (end_map d.row.sent late m r.0 c) ∙ r.1),
              rw other (r.2 ∙ own_rows_late s till d.row.sent late m r.0 c),
              r.3 ∙ ap (λ x. Some (hear_rows s.traffic m rows x)) (after_late d.row.sent late m r.0 c),
            )
      ] refl

  -- ---- own runs of all members

  abbrev Ending : ℕ → PlainCell → Type 0
  Ending m c = (n : ℕ) × (b : Bool) × (own_end till m n c ≡ ending b)

  collected : (i : ℕ) (cs : List PlainCell) → ((j : ℕ) (c : PlainCell) → slice_get cs j ≡ Some c → Ending (i + j) c) → (ns : List ℕ)
      × (bs : List Bool) × Ends s till i cs ns bs
  collected i [] f = ([], [], tt)
  collected i (c ∷ cs) f =
      let h = f 0 c refl in
      let g = collected (suc i) cs (λ j b e. let x = f (suc j) b e in
      (x.0, x.1, subst (λ k. own_end till k x.0 b ≡ ending x.1) (shifted i j) x.2)) in
      (h.0 ∷ g.0, h.1 ∷ g.1, (rw add-zero at h.2, g.2))

  ending_of : (n k : ℕ) (c : PlainCell) → (own_end till k n c ≡ Idle) ⊎ (own_end till k n c ≡ Full) → (n : ℕ) × (b : Bool)
      × (own_end till k n c ≡ ending b)
  ending_of n k c (inl h) = (n, false, h)
  ending_of n k c (inr h) = (n, true, h)

  collected_all : (cs : List PlainCell) → ((j : ℕ) (c : PlainCell) → slice_get cs j ≡ Some c → (n : ℕ)
      × ((own_end till j n c ≡ Idle) ⊎ (own_end till j n c ≡ Full))) → (ns : List ℕ) × (bs : List Bool) × Ends s till 0 cs ns bs
  collected_all cs finite = collected 0 cs (λ j c e. let r = finite j c e in
      ending_of r.0 (0 + j) c (subst (λ k. (own_end till k r.0 c ≡ Idle) ⊎ (own_end till k r.0 c ≡ Full)) (sym (zero-add j)) r.1))

  -- an own run ends in one way
  one_ending : (m n k : ℕ) (c : PlainCell) (a b : Bool) → own_end till m n c ≡ ending a → own_end till m k c ≡ ending b → a ≡ b
  one_ending m zero k c a b h g = elim (own_step till m c) as (λ o. own_step till m c ≡ o → a ≡ b) [
    | Idle ↦ λ e. quiet_ends s till m 0 c a e h ∙ sym (quiet_ends s till m k c b e g)
    | Full ↦ λ e. full_flag s till m 0 c a e h ∙ sym (full_flag s till m k c b e g)
    | Spent ↦ λ e. absurd (spent_flag s till m 0 c a e h)
    | Done d ↦ λ e. absurd (not_done a d (sym e ∙ sym (end_now till m c) ∙ h))
  ] refl
  one_ending m (suc n) k c a b h g = elim (own_step till m c) as (λ o. own_step till m c ≡ o → a ≡ b) [
    | Idle ↦ λ e. quiet_ends s till m (suc n) c a e h ∙ sym (quiet_ends s till m k c b e g)
    | Full ↦ λ e. full_flag s till m (suc n) c a e h ∙ sym (full_flag s till m k c b e g)
    | Spent ↦ λ e. absurd (spent_flag s till m (suc n) c a e h)
    | Done d ↦ λ e. let f = fewer s till m d k c b e g in
        one_ending m n f.0 d.cell a b (sym (ap (end_by till m n) e) ∙ sym (end_first till m n c) ∙ h) f.2
  ] refl

  flag_of : (i : ℕ) (cs : List PlainCell) (ns : List ℕ) (bs : List Bool) → Ends s till i cs ns bs → (j : ℕ) (c : PlainCell) → slice_get cs j
      ≡ Some c → (n : ℕ) × (b : Bool) × (own_end till (i + j) n c ≡ ending b) × (slice_get bs j ≡ Some b)
  flag_of i [] ns bs h j c e = cc
  flag_of i (x ∷ cs) (n ∷ ns) (b ∷ bs) h zero c e = let same : x ≡ c = cc in
      (n, b, rw add-zero (subst (λ y. own_end till i n y ≡ ending b) same h.0), refl)
  flag_of i (x ∷ cs) (n ∷ ns) (b ∷ bs) h (suc j) c e = let r = flag_of (suc i) cs ns bs h.1 j c e in
      (r.0, r.1, subst (λ k. own_end till k r.0 c ≡ ending r.1) (sym (shifted i j)) r.2, r.3)
  flag_of i (x ∷ cs) (n ∷ ns) [] h j c e = absurd h
  flag_of i (x ∷ cs) [] bs h j c e = absurd h

  -- a flag that is set is some member's
  flag_at : (i : ℕ) (cs : List PlainCell) (ns : List ℕ) (bs : List Bool) → Ends s till i cs ns bs → (j : ℕ) → slice_get bs j ≡ Some true
      → (c : PlainCell) × (slice_get cs j ≡ Some c)
  flag_at i [] [] [] h j e = cc
  flag_at i (x ∷ cs) (n ∷ ns) (b ∷ bs) h zero e = (x, refl)
  flag_at i (x ∷ cs) (n ∷ ns) (b ∷ bs) h (suc j) e = flag_at (suc i) cs ns bs h.1 j e
  flag_at i (x ∷ cs) (n ∷ ns) [] h j e = absurd h
  flag_at i (x ∷ cs) [] bs h j e = absurd h
  flag_at i [] (n ∷ ns) bs h j e = absurd h
  flag_at i [] [] (b ∷ bs) h j e = absurd h

pub schedules_agree : SchedulesAgree
schedules_agree s w till fit reached within safe results =
    let all = collected s till 0 w.cells (λ j c e. let r = results j c e in
    (r.0, false, subst (λ k. own_end till k r.0 c ≡ Idle) (sym (zero-add j)) r.1)) in
    let done = to_the_end s till (total all.0) w.cells all.0 all.1 (le_refl (total all.0)) safe all.2 in
    let good = good_reached s fit reached.0 w reached.1 in
    elim done.3 [
      | inl q ↦
          let v : World = record { cells = done.1; trace = w.trace ++ done.0 } in
          let order = seq_ordered s fit till done.2 good in
          let schedule = seq_schedule s till done.2 in (
            v,
            record {
              steps = length done.0;
              comes = seq_run s till within done.2 w.trace;
              quiet = q.0;
              first =
                  λ k u lt h. seq_first s till within done.2 w.trace k lt u h;
            },
            (schedule.0, schedule_of s till schedule.1 w.trace),
            λ ms u h quiet.
                let g = scheduled_is s till ms w u h in
                let same = same_end s till schedule.1 q.0 safe ms g.0 u.cells g.1 quiet in
                let rows : ordered row_cmp (drop (length w.trace) u.trace)
                ≡ done.0 = ap (λ t. ordered row_cmp (drop (length w.trace) t)) g.2 ∙ ap (ordered row_cmp) (drop-append_seam w.trace g.0)
                ∙ sym same.1 ∙ order in
                λ i. record { cells = sym same.0 i; trace = w.trace ++ rows i },
          )
      | inr r ↦
          let at = flag_at s till 0 w.cells all.0 all.1 all.2 r.1.0 r.1.1 in
          let f = flag_of s till 0 w.cells all.0 all.1 all.2 r.1.0 at.0 at.1 in
          let idle = results r.1.0 at.0 at.1 in
          let b : f.1 ≡ false = one_ending s till (0 + r.1.0) f.0 idle.0 at.0 f.1 false f.2
          (subst (λ k. own_end till k idle.0 at.0 ≡ Idle) (sym (zero-add r.1.0)) idle.1) in
          let x : Some true ≡ Some f.1 = sym r.1.1 ∙ f.3 in
          absurd (let y : true ≡ false = cc in cc)
    ]

pub own_runs_end : OwnRunsEnd
own_runs_end s w till fit reached m c g =
    let stable = stable_reached s fit reached.0 w reached.1 in
    own_run_ends (s.traffic.leave m) till m c (stable.good.tidy m c g) (stable.good.sound m c g) (stable.stays m c g)

pub run_on : (s : Setting) (a b : ℕ) (w v : World) → run s a w ≡ Done v → run s (a + b) w ≡ run s b v
unfolding run
run_on s zero b w v h = let e : w ≡ v = cc in rw zero-add (ap (run s b) e)
run_on s (suc a) b w v h =
    let within = le_refl s.traffic.until in
    let first = λ (n : ℕ) (o : StepOutcome World) (e : step_to s s.traffic.until w ≡ o). run_first s s.traffic.until within n w
    ∙ ap (run_by s s.traffic.until within n) e in
    ap (λ n. run s n w) (suc-add a b) ∙ (elim (step_to s s.traffic.until w) as
    (λ o. step_to s s.traffic.until w ≡ o → run s (suc (a + b)) w ≡ run s b v) [
      | Idle ↦ λ e. let x : Idle ≡ Done v = sym (first a Idle e) ∙ h in cc
      | Full ↦ λ e. let x : Full ≡ Done v = sym (first a Full e) ∙ h in cc
      | Spent ↦ λ e. let x : Spent ≡ Done v = sym (first a Spent e) ∙ h in cc
      | Done u ↦ λ e. first (a + b) (Done u) e ∙ run_on s a b u v (sym (first a (Done u) e) ∙ h)
    ] refl)

pub refusals_are_met : RefusalsAreMet
refusals_are_met s w till fit reached within safe m none =
    let finite = own_runs_end s w till fit reached in
    let all = collected_all s till w.cells finite in
    let done = to_the_end s till (total all.0) w.cells all.0 all.1 (le_refl (total all.0)) safe all.2 in
    elim done.3 [
      | inl q ↦
          let f = flag_of s till 0 w.cells all.0 all.1 all.2 m none.0 none.1 in
          let b : f.1 ≡ true = one_ending s till (0 + m) f.0 none.2.0 none.0 f.1 true f.2
          (subst (λ k. own_end till k none.2.0 none.0 ≡ Full) (sym (zero-add m)) none.2.1) in
          absurd (q.1 m (f.3 ∙ ap Some b))
      | inr r ↦ (let refused = seq_refused s till within done.2 r.0 w.trace in (
        (suc (length done.0), refused),
        (
          reached.0 + suc (length done.0),
          run_on s reached.0 (suc (length done.0)) (opening s) w reached.1 ∙ refused,
        ),
      ))
    ]

pub windows_are_safe : WindowsAreSafe
windows_are_safe s w e width till fit reached h wide within = window_safe s fit w.cells (good_reached s fit reached.0 w reached.1)
    s.traffic.until e h width till within wide

pub cells_run_alone : CellsRunAlone
cells_run_alone s w till safe ms u h quiet m c g = grind (arith, scheduled_is, drop-append_seam, alone)

pub promises_are_safe : PromisesAreSafe
promises_are_safe s w till fit reached promise = promise_safe s fit w.cells (good_reached s fit reached.0 w reached.1) till promise

-- ---- the sequential run ends

module _ (s : Setting) (fit : IsFit s) where
  abbrev RunsOut : World → Type 0
  RunsOut w = (n : ℕ) × ((run s n w ≡ Idle) ⊎ (run s n w ≡ Full))

  -- after the run to an end what is pending is from there on
  from_end : (till : ℕ) (ds : List PlainCell) → Quiet till ds → (e : Event) → before s.traffic.until (least_event 0 ds) ≡ Some e
      → till ≤ e.key.time
  from_end till ds quiet e h = elim (nat_lt e.key.time till) as (λ b. nat_lt e.key.time till ≡ b → till ≤ e.key.time) [
    | true ↦ λ q.
        let b = before_some s.traffic.until (least_event 0 ds) e h in
        let early : before till (least_event 0 ds) ≡ Some e = ap (before till) b.0 ∙ ap (λ x. keep x e) q in
        absurd (some_not_idle e (sym (least_own till ds e early) ∙ quiet e.key.member))
    | false ↦ λ q. ltb-false _ _ q
  ] refl

  no_more : (w : World) → before s.traffic.until (least_event 0 w.cells) ≡ None → RunsOut w
  no_more w h = (
    1,
    inl (run_first s s.traffic.until (le_refl s.traffic.until) 0 w
        ∙ ap (run_by s s.traffic.until (le_refl s.traffic.until) 0) (step_none s s.traffic.until (le_refl s.traffic.until) w h)),
  )

  -- one window of a tick
  one_window : (w : World) → Stable s fit w.cells → (e : Event) → before s.traffic.until (least_event 0 w.cells) ≡ Some e
      → ((v : World) → Stable s fit v.cells → ((d : Event) → before s.traffic.until (least_event 0 v.cells) ≡ Some d
      → suc e.key.time ≤ d.key.time) → RunsOut v) → RunsOut w
  one_window w stable e h again =
      let till = suc e.key.time in
      let within : till ≤ s.traffic.until = (before_some s.traffic.until (least_event 0 w.cells) e h).1 in
      let safe = window_safe s fit w.cells stable.good s.traffic.until e h 1 till (omega arith) (λ a b al bl ne. fit.apart a b al bl ne) in
      let all = collected_all s till w.cells (λ j c g. own_run_ends (s.traffic.leave j) till j c (stable.good.tidy j c g)
      (stable.good.sound j c g) (stable.stays j c g)) in
      let done = to_the_end s till (total all.0) w.cells all.0 all.1 (le_refl (total all.0)) safe all.2 in
      elim done.3 [
        | inl q ↦
            let v : World = record { cells = done.1; trace = w.trace ++ done.0 } in
            let r = again v (stable_seq s fit done.2 stable) (λ d g. from_end till done.1 q.0 d g) in
            let on = run_on s (length done.0) r.0 w v (seq_run s till within done.2 w.trace) in
            (length done.0 + r.0, elim r.1 [ inl x ↦ inl (on ∙ x) | inr x ↦ inr (on ∙ x) ])
        | inr r ↦ (suc (length done.0), inr (seq_refused s till within done.2 r.0 w.trace))
      ]

  ends_from : (k : ℕ) (w : World) → Stable s fit w.cells →
      ((e : Event) → before s.traffic.until (least_event 0 w.cells) ≡ Some e → s.traffic.until ≤ e.key.time + k) → RunsOut w
  ends_from zero w stable room = elim (before s.traffic.until (least_event 0 w.cells)) as
      (λ o. before s.traffic.until (least_event 0 w.cells) ≡ o → RunsOut w) [
        | None ↦ λ h. no_more w h
        | Some e ↦ λ h. let early = (before_some s.traffic.until (least_event 0 w.cells) e h).1 in let late = room e h in
            absurd (omega arith)
      ] refl
  ends_from (suc k) w stable room = elim (before s.traffic.until (least_event 0 w.cells)) as
      (λ o. before s.traffic.until (least_event 0 w.cells) ≡ o → RunsOut w) [
        | None ↦ λ h. no_more w h
        | Some e ↦ λ h. one_window w stable e h (λ v g next. ends_from k v
            g (λ d x. let late = room e h in let from = next d x in omega arith))
      ] refl

pub run_ends : RunEnds
run_ends s fit = ends_from s fit s.traffic.until (opening s) (stable_opening s fit) (λ e h. omega arith)

-- ---- no event is pending at a record that is gone

no_spent_step : (s : Setting) (fit : IsFit s) (w : World) → Stable s fit w.cells → (o : Option Event)
    → before s.traffic.until (least_event 0 w.cells) ≡ o → step_to s s.traffic.until w ≢ Spent
unfolding step_to step_of
no_spent_step s fit w stable None h x = let y : Idle ≡ Spent = sym (ap (step_of s w) h) ∙ x in cc
no_spent_step s fit w stable (Some e) h x = elim (step_at (Some e)) as (λ o. step_at (Some e) ≡ o → ⊥) [
  | Idle ↦ λ q. absurd (some_not_idle e q)
  | Full ↦ λ q. let y : Full ≡ Spent = sym (after_full s s.traffic.until (le_refl s.traffic.until) w e.key.member)
      ∙ sym (ap (after_step s w e.key.member) q) ∙ sym (ap (step_of s w) h) ∙ x in cc
  | Spent ↦ λ q. least_not_spent s fit s.traffic.until w.cells e stable h q
  | Done d ↦ λ q. let v : World = record { cells = cells_after s e.key.member d 0 w.cells; trace = w.trace ++ d.row ∷ [] } in let y : Done v
      ≡ Spent = sym (after_stepped s s.traffic.until (le_refl s.traffic.until) w e.key.member d) ∙ sym (ap (after_step s w e.key.member) q)
      ∙ sym (ap (step_of s w) h) ∙ x in cc
] refl

no_spent_run : (s : Setting) (fit : IsFit s) (n k : ℕ) (w : World) → run s k (opening s) ≡ Done w → run s n w ≢ Spent
unfolding run
no_spent_run s fit zero k w reached h = cc
no_spent_run s fit (suc n) k w reached h =
    let within = le_refl s.traffic.until in
    let by = λ (o : StepOutcome World) (e : step_to s s.traffic.until w ≡ o). sym (ap (run_by s s.traffic.until within n) e)
    ∙ sym (run_first s s.traffic.until within n w) ∙ h in
    elim (step_to s s.traffic.until w) as (λ o. step_to s s.traffic.until w ≡ o → ⊥) [
      | Idle ↦ λ e. let x : Idle ≡ Spent = by Idle e in cc
      | Full ↦ λ e. let x : Full ≡ Spent = by Full e in cc
      | Spent ↦ λ e. no_spent_step s fit w (stable_reached s fit k w reached) (before s.traffic.until (least_event 0 w.cells)) refl e
      | Done v ↦ λ e. no_spent_run s fit n (k + 1) v (run_on s k 1 (opening s) w reached ∙ run_first s s.traffic.until within 0 w
          ∙ ap (run_by s s.traffic.until within 0) e) (by (Done v) e)
    ] refl

pub never_spent : NeverSpent
never_spent s w fit reached = (
  λ n. no_spent_run s fit n reached.0 w reached.1,
  λ till m n c g. let stable = stable_reached s fit reached.0 w reached.1 in
      own_never_spent (s.traffic.leave m) till m n c (stable.good.tidy m c g) (stable.stays m c g),
)
