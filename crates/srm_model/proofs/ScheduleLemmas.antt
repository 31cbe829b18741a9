-- All complete schedules to a safe end leave the same cells, and the same rows in order.
use Rattle.std.proofs.Common.{arith}
use Rattle.std.proofs.Common.{◌≡◌, ℕ, zero, suc, ◌≤◌, true, false, List, [], ◌∷◌, refl, sym, ap, ◌∙◌, subst, subst₂, ◌≢◌, Equal, eqb-true}
use Rattle.std.proofs.Common.{◌==◌, Option, Some, None, option_map, slice_get}
use Rattle.std.proofs.lemmas.Bool.{eqb-false, ne_eqb}
use Rattle.std.proofs.lemmas.Option.{same_Some}
use Rattle.srm_cell.proofs.CellLemmas.{outcome_map, stepped_map}
use Rattle.srm_cell.proofs.CellSteps.{SentBy, own_step_is, told_late}
use Rattle.srm_cell.proofs.OwnRunLemmas.{rows_by, rows_done, rows_first}
use Rattle.srm_cell.specs.Cells.{Done, Full, Idle, PlainCell, Spent, StepOutcome, Stepped, own_step}
use Rattle.srm_cell.specs.OwnRuns.{own_rows, told_to}
use Rattle.srm_cell.specs.Setting.{Setting, arrival_of}
use Rattle.srm_model.proofs.Settled.{at_member, get_after, swap_cells}
use Rattle.srm_model.specs.Schedules.{AllSendLate, SendsLate, own_of, scheduled}
use Rattle.srm_model.specs.World.{World, row_cmp, cells_after}
use Rattle.srm_member.proofs.OrderLemmas.{place-comm}
use Rattle.srm_member.specs.declared.row.Row.{Row}
use Rattle.srm_net.specs.Keys.{numbers_of_key}
use Rattle.srm_net.specs.Orders.{ordered, place}
use Rattle.srm_net.specs.declared.packet.Packet.{Packet}
use Rattle.srm_net.proofs.Basics.{same_numbers}
use Rattle.srm_net.proofs.TotalOrders.{key_total}

-- the steps of a schedule, from the cells before to the cells after, with the rows as they come
pub data Sched (s : Setting) (till : ℕ) : List PlainCell → List ℕ → List Row → List PlainCell → Type 0 where
  stop : {cs : List PlainCell} → Sched s till cs [] [] cs
  go : {cs : List PlainCell} {m : ℕ} {ms : List ℕ} {d : Stepped} {rows : List Row} {ds : List PlainCell} → own_of till m (slice_get cs m)
      ≡ Done d → Sched s till (cells_after s m d 0 cs) ms rows ds → Sched s till cs (m ∷ ms) (d.row ∷ rows) ds

-- a schedule goes on from what its first step gives
unfoldable pub then_schedule : Setting → ℕ → List ℕ → StepOutcome World → StepOutcome World
then_schedule s till ms o = elim o [ Idle ↦ Idle | Full ↦ Full | Spent ↦ Spent | Done v ↦ scheduled s till ms v ]

abbrev pub Quiet : ℕ → List PlainCell → Type 0
Quiet till cs = (m : ℕ) → own_of till m (slice_get cs m) ≡ Idle

abbrev pub Safe : Setting → ℕ → List PlainCell → Type 0
Safe s till cs = (m : ℕ) (c : PlainCell) → slice_get cs m ≡ Some c → (n : ℕ) → AllSendLate s till (own_rows till m n c)

pub present : (till m : ℕ) (o : Option PlainCell) (d : Stepped) → own_of till m o ≡ Done d → (c : PlainCell) × (o ≡ Some c)
    × (own_step till m c ≡ Done d)
present till m None d e = cc
present till m (Some c) d e = (c, refl, e)

pub own_of_is : (till m : ℕ) (o : Option PlainCell) (d : Stepped) → own_of till m o ≡ Done d → (d.row.key.member ≡ m) × SentBy m d.row.sent
own_of_is till m o d e = let h = present till m o d e in own_step_is till m h.0 d h.2

module _ (s : Setting) (till : ℕ) where
  -- ---- what stays safe

  first_late : (m : ℕ) (c : PlainCell) (d : Stepped) → own_step till m c ≡ Done d → ((n : ℕ) → AllSendLate s till (own_rows till m n c))
      → SendsLate s till d.row
  first_late m c d e safe = (subst (AllSendLate s till) (rows_done till m 0 c d e) (safe 1)).0

  rest_late : (m : ℕ) (c : PlainCell) (d : Stepped) → own_step till m c ≡ Done d → ((n : ℕ) → AllSendLate s till (own_rows till m n c))
      → (n : ℕ) → AllSendLate s till (own_rows till m n d.cell)
  rest_late m c d e safe n = (subst (AllSendLate s till) (rows_done till m n c d e) (safe (suc n))).1

  pub step_late : (cs : List PlainCell) → Safe s till cs → (m : ℕ) (d : Stepped) → own_of till m (slice_get cs m) ≡ Done d
      → SendsLate s till d.row
  step_late cs safe m d e = let h = present till m (slice_get cs m) d e in first_late m h.0 d h.2 (safe m h.0 h.1)

  -- a late packet changes none of the rows of an own run
  pub own_rows_late : (x : Option Packet) → ((p : Packet) → x ≡ Some p → (m at : ℕ) → arrival_of s.traffic p m ≡ Some at → till ≤ at)
      → (m n : ℕ) (c : PlainCell) → own_rows till m n (told_to s.traffic x m c) ≡ own_rows till m n c
  unfolding own_rows
  own_rows_late x late m zero c = refl
  own_rows_late x late m (suc n) c =
      let step = λ (o : StepOutcome Stepped) (e : own_step till m c ≡ o). rows_first till m n (told_to s.traffic x m c)
      ∙ ap (rows_by till m n) (told_late s.traffic till m x late c ∙ ap (outcome_map (stepped_map (told_to s.traffic x m))) e) in
      let was = λ (o : StepOutcome Stepped) (e : own_step till m c ≡ o). rows_first till m n c ∙ ap (rows_by till m n) e in
      elim (own_step till m c) as (λ o. own_step till m c ≡ o
      → own_rows till m (suc n) (told_to s.traffic x m c) ≡ own_rows till m (suc n) c) [
        | Idle ↦ λ e. step Idle e ∙ sym (was Idle e)
        | Full ↦ λ e. step Full e ∙ sym (was Full e)
        | Spent ↦ λ e. step Spent e ∙ sym (was Spent e)
        | Done d ↦ λ e. step (Done d) e ∙ ap (λ l. d.row ∷ l) (own_rows_late x late m n d.cell) ∙ sym (was (Done d) e)
      ] refl

  pub was_some : (f : PlainCell → PlainCell) (o : Option PlainCell) (c : PlainCell) → option_map f o ≡ Some c → (b : PlainCell)
      × (o ≡ Some b) × (f b ≡ c)
  was_some f None c e = cc
  was_some f (Some b) c e = (b, refl, same_Some _ _ e)

  safe_rows : (m : ℕ) (d : Stepped) (k n : ℕ) (b : PlainCell) → SendsLate s till d.row
      → ((j : ℕ) → AllSendLate s till (own_rows till k j b)) → ((k ≡ m) → own_step till k b ≡ Done d)
      → AllSendLate s till (own_rows till k n (at_member s m d k b))
  safe_rows m d k n b late safe own = grind (arith, rest_late, own_rows_late)

  pub safe_after : (cs : List PlainCell) → Safe s till cs → (m : ℕ) (d : Stepped) → own_of till m (slice_get cs m) ≡ Done d
      → Safe s till (cells_after s m d 0 cs)
  safe_after cs safe m d e k c g n =
      let h = was_some (at_member s m d k) (slice_get cs k) c (sym (get_after s m d k cs) ∙ g) in
      let own : (k ≡ m) → own_step till k h.0 ≡ Done d =
      λ km. (subst (λ o. own_of till k o ≡ Done d) h.1 (subst (λ j. own_of till j (slice_get cs j) ≡ Done d) (sym km) e)) in
      subst (λ x. AllSendLate s till (own_rows till k n x)) h.2 (safe_rows m d k n h.0 (step_late cs safe m d e) (safe k h.0 h.1) own)

  -- ---- an own step after another member's

  own_later : (cs : List PlainCell) → Safe s till cs → (a b : ℕ) (da db : Stepped) → a ≢ b → own_of till a (slice_get cs a) ≡ Done da
      → own_of till b (slice_get cs b) ≡ Done db →
      own_of till b (slice_get (cells_after s a da 0 cs) b) ≡ Done (stepped_map (told_to s.traffic da.row.sent b) db)
  own_later cs safe a b da db ne ea eb =
      let h = present till b (slice_get cs b) db eb in
      let off : (b == a) ≡ false = ne_eqb b a (λ e. ne (sym e)) in
      rw (get_after s a da b cs, h.1) (rw off (rw (told_late s.traffic till b da.row.sent (step_late cs safe a da ea) h.0, h.2) refl))

  -- ---- what comes first may be any member's that has an event pending

  apart_rows : (a b : ℕ) (q r : Row) → a ≢ b → q.key.member ≡ a → r.key.member ≡ b → row_cmp q r ≢ Equal
  apart_rows a b q r ne h g e = ne (sym h ∙ ap second (same_numbers (numbers_of_key q.key) (numbers_of_key r.key) e) ∙ g)
    where
      second : List ℕ → ℕ
      second (x ∷ y ∷ zs) = y
      second _ = 0

  pub row_total : Rattle.std.specs.Cmp.IsTotalOrder row_cmp
  row_total = Rattle.std.specs.Cmp.on_total (λ (r : Row). r.key) key_total

  bring : {cs ds : List PlainCell} {ms : List ℕ} {rows : List Row} (a : ℕ) (da : Stepped) → Sched s till cs ms rows ds → Safe s till cs
      → own_of till a (slice_get cs a) ≡ Done da → Quiet till ds →
      (ms' : List ℕ) × (rows' : List Row) × Sched s till (cells_after s a da 0 cs) ms' rows' ds
      × (ordered row_cmp (da.row ∷ rows') ≡ ordered row_cmp rows)
  bring a da (stop {cs = cs}) safe ea quiet = let e : Idle ≡ Done da = sym (quiet a) ∙ ea in cc
  bring a da (go {cs = cs} {m = b} {ms = ms} {d = db} {rows = rows} {ds = ds} eb rest) safe ea quiet =
      elim (b == a) as (λ x. (b == a) ≡ x → (ms' : List ℕ) × (rows' : List Row) × Sched s till (cells_after s a da 0 cs) ms' rows' ds
      × (ordered row_cmp (da.row ∷ rows') ≡ ordered row_cmp (db.row ∷ rows))) [
        | true ↦ λ ba. let same : da ≡ db = (let e : Done da ≡ Done db = sym ea
            ∙ ap (λ k. own_of till k (slice_get cs k)) (sym (eqb-true _ _ ba)) ∙ eb in cc) in (
              ms,
              rows,
              subst₂ (λ k d. Sched s till (cells_after s k d 0 cs) ms rows ds) (eqb-true _ _ ba) (sym same) rest,
              ap (λ (d : Stepped). ordered row_cmp (d.row ∷ rows)) same,
            )
        | false ↦ λ ba. let ne : a ≢ b = (λ e. eqb-false _ _ ba (sym e)) in
            let ia = own_of_is till a (slice_get cs a) da ea in
            let ib = own_of_is till b (slice_get cs b) db eb in
            let ea' = own_later cs safe b a db da (λ e. ne (sym e)) eb ea in
            let eb' = own_later cs safe a b da db ne ea eb in
            let h = bring a (stepped_map (told_to s.traffic db.row.sent a) da) rest (safe_after cs safe b db eb) ea' quiet in
            let swapped = swap_cells s a b ne da db ia.1 ib.1 0 cs in (
              b ∷ h.0,
              db.row ∷ h.1,
              go eb' (subst (λ x. Sched s till x h.0 h.1 ds) (sym swapped) h.2),
              place-comm row_cmp row_total da.row db.row (apart_rows a b da.row db.row ne ia.0 ib.0) (ordered row_cmp h.1)
                  ∙ ap (place row_cmp db.row) h.3,
            )
      ] refl

  -- two complete schedules end alike
  pub same_end : {cs ds : List PlainCell} {ms : List ℕ} {rows : List Row} → Sched s till cs ms rows ds → Quiet till ds → Safe s till cs →
      (ms' : List ℕ) (rows' : List Row) (ds' : List PlainCell) → Sched s till cs ms' rows' ds' → Quiet till ds' → (ds ≡ ds')
      × (ordered row_cmp rows ≡ ordered row_cmp rows')
  same_end (stop {cs = cs}) quiet safe ms' rows' ds' other quiet' = nothing_more other quiet
    where
      nothing_more : {cs' es : List PlainCell} {ks : List ℕ} {rs : List Row} → Sched s till cs' ks rs es → Quiet till cs' → (cs' ≡ es)
          × (ordered row_cmp [] ≡ ordered row_cmp rs)
      nothing_more stop q = (refl, refl)
      nothing_more (go {m = m} {d = d} e rest) q = let x : Idle ≡ Done d = sym (q m) ∙ e in cc
  same_end (go {cs = cs} {m = a} {d = d} {ds = ds} e rest) quiet safe ms' rows' ds' other quiet' =
      let h = bring a d other safe e quiet' in
      let g = same_end rest quiet (safe_after cs safe a d e) h.0 h.1 ds' h.2 quiet' in
      (g.0, ap (place row_cmp d.row) g.1 ∙ h.3)
