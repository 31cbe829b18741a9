-- The sequential run to an end is a complete schedule, if own runs end.
use Rattle.std.proofs.Common.{◌≡◌, ℕ, zero, suc, ◌<◌, ◌≤◌, ◌+◌, Bool, true, false, List, [], ◌∷◌, ◌++◌, length, refl, sym, ap, ◌∙◌, subst}
use Rattle.std.proofs.Common.{subst₂, ◌≢◌, ◌⊎◌, inl, inr, arith, eq-eqb, ◌==◌, Option, Some, None}
use Rattle.std.proofs.Common.{slice_get, add-zero, zero-add, append_assoc, append-nil}
use Rattle.std.proofs.lemmas.Bool.{ne_eqb}
use Rattle.srm_cell.proofs.CellLemmas.{before-earlier, outcome_map, stepped_map}
use Rattle.srm_cell.proofs.CellSteps.{IsOf, before_more, before_of, next_event_of, some_not_idle, told_late}
use Rattle.srm_cell.proofs.OwnRunLemmas.{end_by, end_first, end_now}
use Rattle.srm_cell.specs.Cells.{Done, Event, Full, Idle, PlainCell, Spent, StepOutcome, Stepped, before, earlier, next_event}
use Rattle.srm_cell.specs.Cells.{own_step, step_at}
use Rattle.srm_cell.specs.OwnRuns.{own_end, told_to}
use Rattle.srm_cell.specs.Setting.{Setting, arrival_of}
use Rattle.srm_model.proofs.ScheduleLemmas.{Quiet, Safe, Sched, go, present, safe_after, step_late, stop}
use Rattle.srm_model.proofs.Settled.{at_member}
use Rattle.srm_model.specs.Schedules.{SendsLate, own_of}
use Rattle.srm_model.specs.World.{World, after_step, least_event, run, cells_after, step_of, step_to}
use Rattle.srm_member.specs.declared.row.Row.{Row}
use Rattle.srm_net.specs.declared.packet.Packet.{Packet}

-- ---- the least event of all members is one member's own

from_earlier : (x y : Option Event) (e : Event) → earlier x y ≡ Some e → (x ≡ Some e) ⊎ (y ≡ Some e)
from_earlier x y e h = grind arith

pub none_earlier : (x y : Option Event) → earlier x y ≡ None → (x ≡ None) × (y ≡ None)
none_earlier x y h = grind arith

pub shifted : (i j : ℕ) → i + suc j ≡ suc i + j
shifted i j = omega arith

-- where the least event before the end comes from
pub least_from : (till i : ℕ) (cs : List PlainCell) (e : Event) → before till (least_event i cs) ≡ Some e → (j : ℕ) × (c : PlainCell)
    × (slice_get cs j ≡ Some c) × (before till (next_event (i + j) c) ≡ Some e)
unfolding least_event
least_from till i [] e h = cc
least_from till i (c ∷ cs) e h = elim (from_earlier _ _ e (sym (before-earlier till (next_event i c) (least_event (suc i) cs)) ∙ h)) [
  | inl g ↦ (0, c, refl, rw add-zero g)
  | inr g ↦ let r = least_from till (suc i) cs e g in
      let same : i + suc r.0 ≡ suc i + r.0 = omega arith in
      (suc r.0, r.1, r.2, rw same r.3)
]

pub none_least : (till i : ℕ) (cs : List PlainCell) → before till (least_event i cs) ≡ None → (j : ℕ) → own_of till (i + j) (slice_get cs j)
    ≡ Idle
unfolding least_event own_step
none_least till i [] h j = refl
none_least till i (c ∷ cs) h zero = let n = none_earlier _ _ (sym (before-earlier till (next_event i c) (least_event (suc i) cs)) ∙ h) in
    rw add-zero (ap step_at n.0)
none_least till i (c ∷ cs) h (suc j) = let n = none_earlier _ _ (sym (before-earlier till (next_event i c) (least_event (suc i) cs)) ∙ h) in
    rw (shifted i j) (none_least till (suc i) cs n.1 j)

-- the least event of all, before the end, is its member's least own one
pub least_own : (till : ℕ) (cs : List PlainCell) (e : Event) → before till (least_event 0 cs) ≡ Some e
    → own_of till e.key.member (slice_get cs e.key.member) ≡ step_at (Some e)
unfolding own_step
least_own till cs e h =
    let r = least_from till 0 cs e h in
    let at_j : before till (next_event r.0 r.1) ≡ Some e = rw zero-add at r.3 in
    let of_j : e.key.member ≡ r.0 = subst (IsOf r.0) at_j (before_of r.0 till (next_event r.0 r.1) (next_event_of r.0 r.1)) in
    ap (λ k. own_of till k (slice_get cs k)) of_j ∙ ap (own_of till r.0) r.2 ∙ ap step_at at_j

-- ---- how an own run ends

-- at the end, or, where `full` says so, at a step without a result
abbrev pub ending : Bool → StepOutcome Stepped
ending true = Full
ending false = Idle

pub not_done : (b : Bool) (d : Stepped) → Done d ≢ ending b
not_done true d e = cc
not_done false d e = cc

map_ending : (f : PlainCell → PlainCell) (b : Bool) → outcome_map (stepped_map f) (ending b) ≡ ending b
map_ending f true = refl
map_ending f false = refl

abbrev pub total : List ℕ → ℕ
total [] = 0
total (n ∷ ns) = n + total ns

module _ (s : Setting) (till : ℕ) where
  -- an own run ends as it would have without a late packet
  pub end_late : (x : Option Packet) → ((p : Packet) → x ≡ Some p → (m at : ℕ) → arrival_of s.traffic p m ≡ Some at → till ≤ at)
      → (m n : ℕ) (c : PlainCell) (b : Bool) → own_end till m n c ≡ ending b → own_end till m n (told_to s.traffic x m c) ≡ ending b
  end_late x late m zero c b h = end_now till m (told_to s.traffic x m c) ∙ told_late s.traffic till m x late c
      ∙ ap (outcome_map (stepped_map (told_to s.traffic x m))) (sym (end_now till m c) ∙ h) ∙ map_ending _ b
  end_late x late m (suc n) c b h =
      let step = λ (o : StepOutcome Stepped) (e : own_step till m c ≡ o). end_first till m n (told_to s.traffic x m c)
      ∙ ap (end_by till m n) (told_late s.traffic till m x late c ∙ ap (outcome_map (stepped_map (told_to s.traffic x m))) e) in
      let was = λ (o : StepOutcome Stepped) (e : own_step till m c ≡ o). sym (ap (end_by till m n) e) ∙ sym (end_first till m n c) ∙ h in
      elim (own_step till m c) as (λ o. own_step till m c ≡ o → own_end till m (suc n) (told_to s.traffic x m c) ≡ ending b) [
        | Idle ↦ λ e. step Idle e ∙ was Idle e
        | Full ↦ λ e. step Full e ∙ was Full e
        | Spent ↦ λ e. step Spent e ∙ was Spent e
        | Done d ↦ λ e. step (Done d) e ∙ end_late x late m n d.cell b (was (Done d) e)
      ] refl

  -- the own run of the cell of each member, from i on, ends after so many steps, as its flag says
  abbrev pub Ends : ℕ → List PlainCell → List ℕ → List Bool → Type 0
  Ends i [] [] [] = Unit {0}
  Ends i (c ∷ cs) (n ∷ ns) (b ∷ bs) = (own_end till i n c ≡ ending b) × Ends (suc i) cs ns bs
  Ends i _ _ _ = ⊥

  head_off : (a : ℕ) (d : Stepped) → SendsLate s till d.row → (i n : ℕ) (c : PlainCell) (b : Bool) → i ≢ a → own_end till i n c ≡ ending b
      → own_end till i n (at_member s a d i c) ≡ ending b
  head_off a d late i n c b ne h = let no : (i == a) ≡ false = ne_eqb i a ne in rw no (end_late d.row.sent late i n c b h)

  ends_other : (a : ℕ) (d : Stepped) → SendsLate s till d.row → (i : ℕ) (cs : List PlainCell) (ns : List ℕ) (bs : List Bool) → a < i
      → Ends i cs ns bs → Ends i (cells_after s a d i cs) ns bs
  unfolding cells_after
  ends_other a d late i [] [] [] lt h = tt
  ends_other a d late i (c ∷ cs) (n ∷ ns) (b ∷ bs) lt h =
      (head_off a d late i n c b (λ e. omega arith) h.0, ends_other a d late (suc i) cs ns bs (omega arith) h.1)
  ends_other a d late i (c ∷ cs) (n ∷ ns) [] lt h = absurd h
  ends_other a d late i (c ∷ cs) [] bs lt h = absurd h
  ends_other a d late i [] (n ∷ ns) bs lt h = absurd h
  ends_other a d late i [] [] (b ∷ bs) lt h = absurd h

  pub fewer : (a : ℕ) (d : Stepped) (n : ℕ) (c : PlainCell) (b : Bool) → own_step till a c ≡ Done d → own_end till a n c ≡ ending b
      → (k : ℕ) × (n ≡ suc k) × (own_end till a k d.cell ≡ ending b)
  fewer a d zero c b e h = absurd (not_done b d (sym e ∙ sym (end_now till a c) ∙ h))
  fewer a d (suc n) c b e h = (n, refl, sym (ap (end_by till a n) e) ∙ sym (end_first till a n c) ∙ h)

  -- after a member's step its own run is one step shorter
  ends_step : (a : ℕ) (d : Stepped) → SendsLate s till d.row → (j i : ℕ) (cs : List PlainCell) (ns : List ℕ) (bs : List Bool) → a ≡ i + j
      → (c : PlainCell) → slice_get cs j ≡ Some c → own_step till a c ≡ Done d → Ends i cs ns bs →
      (ns' : List ℕ) × Ends i (cells_after s a d i cs) ns' bs × (total ns ≡ suc (total ns'))
  unfolding cells_after
  ends_step a d late zero i (x ∷ cs) (n ∷ ns) (b ∷ bs) ia c g e h =
      let same : i ≡ a = omega arith in
      let yes : (i == a) ≡ true = eq-eqb _ _ same in
      let xc : x ≡ c = cc in
      let here : own_end till a n c ≡ ending b = subst₂ (λ k y. own_end till k n y ≡ ending b) same xc h.0 in
      let f = fewer a d n c b e here in (
        f.0 ∷ ns,
        (
          (let there : own_end till i f.0 d.cell ≡ ending b = subst (λ k. own_end till k f.0 d.cell ≡ ending b) (sym same) f.2 in
              rw yes there),
          ends_other a d late (suc i) cs ns bs (omega arith) h.1,
        ),
        (let m = f.1 in omega arith),
      )
  ends_step a d late (suc j) i (x ∷ cs) (n ∷ ns) (b ∷ bs) ia c g e h =
      let r = ends_step a d late j (suc i) cs ns bs (omega arith) c g e h.1 in
      (n ∷ r.0, (head_off a d late i n x b (λ q. omega arith) h.0, r.1), (let m = r.2 in omega arith))
  ends_step a d late zero i [] ns bs ia c g e h = cc
  ends_step a d late (suc j) i [] ns bs ia c g e h = cc
  ends_step a d late zero i (x ∷ cs) [] bs ia c g e h = absurd h
  ends_step a d late (suc j) i (x ∷ cs) [] bs ia c g e h = absurd h
  ends_step a d late zero i (x ∷ cs) (n ∷ ns) [] ia c g e h = absurd h
  ends_step a d late (suc j) i (x ∷ cs) (n ∷ ns) [] ia c g e h = absurd h

  -- ---- the steps of the sequential run that are before the end

  pub data Seq : List PlainCell → List Row → List PlainCell → Type 0 where
    rest : {cs : List PlainCell} → Seq cs [] cs
    next : {cs : List PlainCell} {e : Event} {d : Stepped} {rows : List Row} {ds : List PlainCell} → before till (least_event 0 cs) ≡ Some e
        → step_at (Some e) ≡ Done d → Seq (cells_after s e.key.member d 0 cs) rows ds → Seq cs (d.row ∷ rows) ds

  -- where the run cannot go on
  abbrev pub Refused : List PlainCell → Type 0
  Refused cs = (e : Event) × (before till (least_event 0 cs) ≡ Some e) × (step_at (Some e) ≡ Full)

  abbrev pub AllEnd : List Bool → Type 0
  AllEnd bs = (j : ℕ) → slice_get bs j ≢ Some true

  abbrev pub SomeFull : List Bool → Type 0
  SomeFull bs = (j : ℕ) × (slice_get bs j ≡ Some true)

  pub quiet_ends : (m n : ℕ) (c : PlainCell) (b : Bool) → own_step till m c ≡ Idle → own_end till m n c ≡ ending b → b ≡ false
  quiet_ends m zero c true e h = let x : Idle ≡ Full = sym e ∙ sym (end_now till m c) ∙ h in cc
  quiet_ends m (suc n) c true e h = let x : Idle ≡ Full = sym (ap (end_by till m n) e) ∙ sym (end_first till m n c) ∙ h in cc
  quiet_ends m n c false e h = refl

  quiet_all : (i : ℕ) (cs : List PlainCell) (ns : List ℕ) (bs : List Bool) → ((j : ℕ) → own_of till (i + j) (slice_get cs j) ≡ Idle)
      → Ends i cs ns bs → (j : ℕ) → slice_get bs j ≢ Some true
  quiet_all i [] [] [] q h j g = cc
  quiet_all i (c ∷ cs) (n ∷ ns) (b ∷ bs) q h zero g =
      let e : own_step till i c ≡ Idle = rw add-zero at (q 0) in
      let x : b ≡ false = quiet_ends i n c b e h.0 in cc
  quiet_all i (c ∷ cs) (n ∷ ns) (b ∷ bs) q h (suc j) g = quiet_all (suc i) cs ns bs (λ k. rw (shifted i k) at (q (suc k))) h.1 j g
  quiet_all i (c ∷ cs) (n ∷ ns) [] q h j g = absurd h
  quiet_all i (c ∷ cs) [] bs q h j g = absurd h
  quiet_all i [] (n ∷ ns) bs q h j g = absurd h
  quiet_all i [] [] (b ∷ bs) q h j g = absurd h

  pub full_flag : (m n : ℕ) (c : PlainCell) (b : Bool) → own_step till m c ≡ Full → own_end till m n c ≡ ending b → b ≡ true
  full_flag m zero c false e h = let x : Full ≡ Idle = sym e ∙ sym (end_now till m c) ∙ h in cc
  full_flag m (suc n) c false e h = let x : Full ≡ Idle = sym (ap (end_by till m n) e) ∙ sym (end_first till m n c) ∙ h in cc
  full_flag m n c true e h = refl

  full_some : (i : ℕ) (cs : List PlainCell) (ns : List ℕ) (bs : List Bool) (j : ℕ) (c : PlainCell) → slice_get cs j ≡ Some c
      → own_step till (i + j) c ≡ Full → Ends i cs ns bs → slice_get bs j ≡ Some true
  full_some i [] ns bs j c g e h = cc
  full_some i (x ∷ cs) (n ∷ ns) (b ∷ bs) zero c g e h =
      let xc : x ≡ c = cc in
      let f : own_step till i x ≡ Full = rw xc (rw add-zero at e) in
      ap Some (full_flag i n x b f h.0)
  full_some i (x ∷ cs) (n ∷ ns) (b ∷ bs) (suc j) c g e h = full_some (suc i) cs ns bs j c g (rw (shifted i j) at e) h.1
  full_some i (x ∷ cs) [] bs j c g e h = absurd h
  full_some i (x ∷ cs) (n ∷ ns) [] j c g e h = absurd h

  not_ending : (b : Bool) → Spent ≢ ending b
  not_ending true e = cc
  not_ending false e = cc

  -- an own run that ends meets no record that is gone
  pub spent_flag : (m n : ℕ) (c : PlainCell) (b : Bool) → own_step till m c ≡ Spent → own_end till m n c ≡ ending b → ⊥
  spent_flag m zero c b e h = not_ending b (sym e ∙ sym (end_now till m c) ∙ h)
  spent_flag m (suc n) c b e h = not_ending b (sym (ap (end_by till m n) e) ∙ sym (end_first till m n c) ∙ h)

  spent_none : (i : ℕ) (cs : List PlainCell) (ns : List ℕ) (bs : List Bool) (j : ℕ) (c : PlainCell) → slice_get cs j ≡ Some c
      → own_step till (i + j) c ≡ Spent → Ends i cs ns bs → ⊥
  spent_none i [] ns bs j c g e h = let y : ⊥ = cc in y
  spent_none i (x ∷ cs) (n ∷ ns) (b ∷ bs) zero c g e h =
      let xc : x ≡ c = cc in
      let f : own_step till i x ≡ Spent = rw xc (rw add-zero at e) in
      spent_flag i n x b f h.0
  spent_none i (x ∷ cs) (n ∷ ns) (b ∷ bs) (suc j) c g e h = spent_none (suc i) cs ns bs j c g (rw (shifted i j) at e) h.1
  spent_none i (x ∷ cs) [] bs j c g e h = h
  spent_none i (x ∷ cs) (n ∷ ns) [] j c g e h = h

  abbrev pub Finish : List PlainCell → List Bool → Type 0
  Finish cs bs = (rows : List Row) × (ds : List PlainCell) × Seq cs rows ds × ((Quiet till ds × AllEnd bs) ⊎ (Refused ds × SomeFull bs))

  one_step : (cs : List PlainCell) (ns : List ℕ) (bs : List Bool) → Safe s till cs → Ends 0 cs ns bs →
      ((cs' : List PlainCell) (ns' : List ℕ) → total ns ≡ suc (total ns') → Safe s till cs' → Ends 0 cs' ns' bs → Finish cs' bs)
      → Finish cs bs
  unfolding own_step
  one_step cs ns bs safe ends again = elim (before till (least_event 0 cs)) as (λ o. before till (least_event 0 cs) ≡ o → Finish cs bs) [
    | None ↦ λ n. let q : Quiet till cs = λ j. rw zero-add at (none_least till 0 cs n j) in
        ([], cs, rest, inl (q, quiet_all 0 cs ns bs (λ j. rw zero-add (q j)) ends))
    | Some e ↦ λ h. elim (step_at (Some e)) as (λ o. step_at (Some e) ≡ o → Finish cs bs) [
      | Idle ↦ λ x. absurd (some_not_idle e x)
      | Spent ↦ λ x. let r = least_from till 0 cs e h in
          absurd (spent_none 0 cs ns bs r.0 r.1 r.2 (ap step_at r.3 ∙ x) ends)
      | Full ↦ λ x. let r = least_from till 0 cs e h in
          ([], cs, rest, inr ((e, h, x), (r.0, full_some 0 cs ns bs r.0 r.1 r.2 (ap step_at r.3 ∙ x) ends)))
      | Done d ↦ λ x.
          let a = e.key.member in
          let own : own_of till a (slice_get cs a) ≡ Done d = least_own till cs e h ∙ x in
          let p = present till a (slice_get cs a) d own in
          let late = step_late s till cs safe a d own in
          let f = ends_step a d late a 0 cs ns bs (sym (zero-add a)) p.0 p.1 p.2 ends in
          let g = again (cells_after s a d 0 cs) f.0 f.2 (safe_after s till cs safe a d own) f.1 in
          (d.row ∷ g.0, g.1, next h x g.2, g.3)
    ] refl
  ] refl

  -- the sequential run to the end comes to a quiet world, or to a step without a result, as the own runs do
  pub to_the_end : (fuel : ℕ) (cs : List PlainCell) (ns : List ℕ) (bs : List Bool) → total ns ≤ fuel → Safe s till cs → Ends 0 cs ns bs
      → Finish cs bs
  to_the_end zero cs ns bs le safe ends = one_step cs ns bs safe ends (λ cs' ns' e safe' ends'. absurd (omega arith))
  to_the_end (suc fuel) cs ns bs le safe ends = one_step cs ns bs safe ends
      (λ cs' ns' e safe' ends'. to_the_end fuel cs' ns' bs (omega arith) safe' ends')

  -- ---- what these steps are

  pub seq_schedule : {cs ds : List PlainCell} {rows : List Row} → Seq cs rows ds → (ms : List ℕ) × Sched s till cs ms rows ds
  seq_schedule rest = ([], stop)
  seq_schedule (next {cs = cs} {e = e} {d = d} h x more) = let g = seq_schedule more in
      (e.key.member ∷ g.0, go (least_own till cs e h ∙ x) g.1)

  module _ (within : till ≤ s.traffic.until) where
    abbrev pub run_by : ℕ → StepOutcome World → StepOutcome World
    run_by n o = elim o [ Idle ↦ Idle | Full ↦ Full | Spent ↦ Spent | Done v ↦ run s n v ]

    pub run_first : (n : ℕ) (w : World) → run s (suc n) w ≡ run_by n (step_to s s.traffic.until w)
    unfolding run
    run_first n w = refl

    pub step_none : (w : World) → before s.traffic.until (least_event 0 w.cells) ≡ None → step_to s s.traffic.until w ≡ Idle
    unfolding step_to step_of
    step_none w h = ap (step_of s w) h

    pub step_is : (w : World) (e : Event) → before till (least_event 0 w.cells) ≡ Some e → step_to s s.traffic.until w
        ≡ after_step s w e.key.member (step_at (Some e))
    unfolding step_to step_of
    step_is w e h = ap (step_of s w) (before_more till s.traffic.until within (least_event 0 w.cells) e h)

    pub after_stepped : (w : World) (m : ℕ) (d : Stepped) → after_step s w m (Done d)
        ≡ Done (record { cells = cells_after s m d 0 w.cells; trace = w.trace ++ d.row ∷ [] })
    unfolding after_step
    after_stepped w m d = refl

    pub after_full : (w : World) (m : ℕ) → after_step s w m Full ≡ Full
    unfolding after_step
    after_full w m = refl

    pub after_spent : (w : World) (m : ℕ) → after_step s w m Spent ≡ Spent
    unfolding after_step
    after_spent w m = refl

    pub seq_run : {cs ds : List PlainCell} {rows : List Row} → Seq cs rows ds → (t : List Row)
        → run s (length rows) (record { cells = cs; trace = t }) ≡ Done (record { cells = ds; trace = t ++ rows })
    unfolding run
    seq_run (rest {cs = cs}) t = ap (λ (r : List Row). Done (record { cells = cs; trace = r })) (sym (append-nil t))
    seq_run (next {cs = cs} {e = e} {d = d} {rows = rows} {ds = ds} h x more) t =
        let w : World = record { cells = cs; trace = t } in
        run_first (length rows) w
        ∙ ap (run_by (length rows)) (step_is w e h ∙ ap (after_step s w e.key.member) x ∙ after_stepped w e.key.member d)
        ∙ seq_run more (t ++ d.row ∷ [])
        ∙ ap (λ (r : List Row). Done (record { cells = ds; trace = r })) (append_assoc t (d.row ∷ []) rows)

    pub seq_refused : {cs ds : List PlainCell} {rows : List Row} → Seq cs rows ds → Refused ds → (t : List Row)
        → run s (suc (length rows)) (record { cells = cs; trace = t }) ≡ Full
    seq_refused (rest {cs = cs}) r t =
        let w : World = record { cells = cs; trace = t } in
        run_first 0 w ∙ ap (run_by 0) (step_is w r.0 r.1 ∙ ap (after_step s w r.0.key.member) r.2 ∙ after_full w r.0.key.member)
    seq_refused (next {cs = cs} {e = e} {d = d} {rows = rows} {ds = ds} h x more) r t =
        let w : World = record { cells = cs; trace = t } in
        run_first (suc (length rows)) w
        ∙ ap (run_by (suc (length rows))) (step_is w e h ∙ ap (after_step s w e.key.member) x ∙ after_stepped w e.key.member d)
        ∙ seq_refused more r (t ++ d.row ∷ [])

    -- none of the worlds before the last is quiet
    pub seq_first : {cs ds : List PlainCell} {rows : List Row} → Seq cs rows ds → (t : List Row) (k : ℕ) → k < length rows → (u : World)
        → run s k (record { cells = cs; trace = t }) ≡ Done u → ¬ Quiet till u.cells
    unfolding run
    seq_first rest t k lt u g q = omega arith
    seq_first (next {cs = cs} {e = e} {d = d} h x more) t zero lt u g q =
        let same : ◌≡◌ {A = World} (record { cells = cs; trace = t }) u = cc in
        let quiet : Quiet till cs = subst (λ (v : World). Quiet till v.cells) (sym same) q in
        let i : Idle ≡ Done d = sym (quiet e.key.member) ∙ least_own till cs e h ∙ x in cc
    seq_first (next {cs = cs} {e = e} {d = d} h x more) t (suc k) lt u g q =
        let w : World = record { cells = cs; trace = t } in
        seq_first more (t ++ d.row ∷ []) k (omega arith) u
        (sym (ap (run_by k) (step_is w e h ∙ ap (after_step s w e.key.member) x ∙ after_stepped w e.key.member d)) ∙ sym (run_first k w)
        ∙ g) q
