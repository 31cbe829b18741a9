-- The packets of a window's rows are new to every cell that hears them one after the other.
use Rattle.std.proofs.lemmas.Grind.{common_steps}
use Rattle.std.proofs.Common.{◌≡◌, ◌≢◌, ℕ, zero, suc, ◌<◌, ◌+◌, List, [], ◌∷◌, ◌++◌, refl, sym, ap, ◌∙◌, subst, arith, Option, Some}
use Rattle.std.proofs.Common.{None, slice_get, add-zero, append_assoc}
use Rattle.std.proofs.lemmas.List.Elements.{Contains-append_left, Contains-append_right}
use Rattle.std.proofs.lemmas.Option.{same_Some}
use Rattle.srm_net.specs.declared.key.Key.{Key}
use Rattle.srm_net.specs.declared.packet.PacketId.{PacketId}
use Rattle.srm_net.specs.declared.packet.Packet.{Packet}
use Rattle.srm_member.specs.declared.row.Row.{Row}
use Rattle.srm_member.proofs.AllIn.{AllIn, AllIn-second, AllIn-place, AllIn-weaker}
use Rattle.srm_cell.specs.declared.flight.Flight.{Flight}
use Rattle.srm_cell.specs.Flights.{BringsNone, flight_cmp}
use Rattle.srm_cell.specs.Setting.{Setting, IsFit, arrival_of}
use Rattle.srm_cell.specs.Cells.{PlainCell, StepOutcome, Idle, Full, Spent, Done, Stepped, before, own_step, hear}
use Rattle.srm_cell.specs.Cells.{hear_at}
use Rattle.srm_cell.specs.OwnRuns.{hear_rows, own_after, told_to}
use Rattle.srm_cell.proofs.CellSteps.{before_some}
use Rattle.srm_cell.proofs.Clear.{next_rest, step_is_of}
use Rattle.srm_cell.proofs.OwnRunLemmas.{after_by, after_first}
use Rattle.srm_model.specs.World.{World, least_event, IsReached}
use Rattle.srm_model.specs.Handed.{SentIn, sending_count}
use Rattle.srm_model.specs.Hearing.{IsUnheard}
use Rattle.srm_model.specs.WindowRuns.{OwnResult, AreOwnRuns, cells_in, each_hears, after_window, IsWindow}
use Rattle.srm_model.specs.WindowLaws.{WindowPacketsAreNew}
use Rattle.srm_model.proofs.HandedOnce.{handed_reached, packets_are_numbered, IsFlight}
use Rattle.srm_model.proofs.TraceRows.{contained_split, sent_more}
use Rattle.srm_model.proofs.OneWindow.{new_rows_are, part_rows, windows_agree}
use Rattle.srm_model.proofs.RunLemmas.{Seq, rest, next, shifted}
use Rattle.srm_model.proofs.Sequential.{Good, good_reached, good_step, member_below, step_facts}
use Rattle.srm_model.proofs.WindowRows.{get_heard}
use Rattle.srm_model.proofs.AllSchedules.{mapped}

-- ---- rows of the run are of its members, and before its end

module _ (s : Setting) (fit : IsFit s) where
  abbrev pub IsWithin : Row → Type 0
  IsWithin r = (r.key.member < s.traffic.members) × (r.key.time < s.traffic.until)

  rows_within : {cs ds : List PlainCell} {rows : List Row} → Seq s s.traffic.until cs rows ds → Good s fit cs → AllIn IsWithin rows
  rows_within rest good = tt
  rows_within (next {cs = cs} {e = e} {d = d} h x more) good =
      let f = step_facts s fit s.traffic.until cs e d h x in
      let is : (e.key.member < s.traffic.members) × (e.key.time < s.traffic.until) =
      (member_below s fit s.traffic.until cs e d good h x, (before_some s.traffic.until (least_event 0 cs) e h).1) in
      let here : IsWithin d.row = subst (λ (k : Key). (k.member < s.traffic.members) × (k.time < s.traffic.until)) (sym f.key) is in
      (here, rows_within more (good_step s fit s.traffic.until cs e d good h x))

all_at : {A : Type 0} (Q : A → Type 0) (xs : List A) (y : A) (ys : List A) → AllIn Q (xs ++ y ∷ ys) → Q y
all_at Q xs y ys h = (AllIn-second Q xs (y ∷ ys) h).0

-- ---- packets that are sent later are others

counted_more : (m : ℕ) (before : List Row) (r : Row) (after : List Row) (p : Packet) → r.key.member ≡ m → r.sent ≡ Some p
    → sending_count m before < sending_count m (before ++ r ∷ after)
counted_more m before r after p member sent = grind (arith, common_steps)

module _ (s : Setting) (v : World) (reached : IsReached s v) (earlier after : List Row) (r : Row) (p : Packet)
    (split : v.trace ≡ earlier ++ r ∷ after) (sent : r.sent ≡ Some p) where
  pub later_is_new : (q : Packet) → SentIn q earlier → q.id ≢ p.id
  later_is_new q (r', at, q_sent) same =
      let cut = contained_split earlier r' at in
      let whole : v.trace ≡ cut.0 ++ r' ∷ (cut.1 ++ r ∷ after) = split ∙ ap (λ l. l ++ r ∷ after) cut.2
      ∙ append_assoc cut.0 (r' ∷ cut.1) (r ∷ after) in
      let a = packets_are_numbered s v reached earlier after r p split sent in
      let b = packets_are_numbered s v reached cut.0 (cut.1 ++ r ∷ after) r' q whole q_sent in
      let member : r'.key.member ≡ r.key.member = sym b.0 ∙ ap (λ (k : PacketId). k.sender) same ∙ a.0 in
      let more : sending_count r.key.member cut.0 < sending_count r.key.member (cut.0 ++ r' ∷ cut.1) =
      counted_more r.key.member cut.0 r' cut.1 q member q_sent in
      let count : sending_count r.key.member cut.0 ≡ sending_count r.key.member (cut.0 ++ r' ∷ cut.1) =
      ap (λ m. sending_count m cut.0) (sym member) ∙ sym b.1 ∙ ap (λ (k : PacketId). k.count) same ∙ a.1
      ∙ ap (sending_count r.key.member) cut.2 in
      absurd (omega arith)

-- ---- what inboxes keep

module _ (Q : Flight → Type 0) where
  step_keeps : (till m : ℕ) (c : PlainCell) (d : Stepped) → own_step till m c ≡ Done d → AllIn Q c.inbox → AllIn Q d.cell.inbox
  unfolding own_step
  step_keeps till m c d h a = grind (arith, step_is_of, next_rest)

  run_keeps : (till m n : ℕ) (c : PlainCell) → AllIn Q c.inbox → AllIn Q (own_after till m n c).inbox
  unfolding own_after
  run_keeps till m zero c a = a
  run_keeps till m (suc n) c a =
      let by = λ (o : StepOutcome Stepped) (e : own_step till m c ≡ o). after_first till m n c ∙ ap (after_by till m n c) e in
      elim (own_step till m c) as (λ o. own_step till m c ≡ o → AllIn Q (own_after till m (suc n) c).inbox) [
        | Idle ↦ λ e. subst (λ (b : PlainCell). AllIn Q b.inbox) (sym (by Idle e)) a
        | Full ↦ λ e. subst (λ (b : PlainCell). AllIn Q b.inbox) (sym (by Full e)) a
        | Spent ↦ λ e. subst (λ (b : PlainCell). AllIn Q b.inbox) (sym (by Spent e)) a
        | Done d ↦ λ e. subst (λ (b : PlainCell). AllIn Q b.inbox) (sym (by (Done d) e))
            (run_keeps till m n d.cell (step_keeps till m c d e a))
      ] refl

  module _ (s : Setting) where
    hear_at_keeps : (p : Packet) (o : Option ℕ) (c : PlainCell) → ((at : ℕ) → Q (record { arrival = at; packet = p })) → AllIn Q c.inbox
        → AllIn Q (hear_at p o c).inbox
    hear_at_keeps p None c h a = a
    hear_at_keeps p (Some at) c h a = AllIn-place Q flight_cmp (record { arrival = at; packet = p }) c.inbox (h at) a

    told_keeps : (o : Option Packet) (m : ℕ) (c : PlainCell) →
        ((p : Packet) → o ≡ Some p → (at : ℕ) → Q (record { arrival = at; packet = p })) → AllIn Q c.inbox
        → AllIn Q (told_to s.traffic o m c).inbox
    unfolding hear
    told_keeps None m c h a = a
    told_keeps (Some p) m c h a = hear_at_keeps p (arrival_of s.traffic p m) c (h p refl) a

    hear_keeps : (m : ℕ) (rows : List Row) (c : PlainCell) →
        ((p : Packet) → SentIn p rows → (at : ℕ) → Q (record { arrival = at; packet = p })) → AllIn Q c.inbox
        → AllIn Q (hear_rows s.traffic m rows c).inbox
    hear_keeps m [] c h a = a
    hear_keeps m (r ∷ rows) c h a =
        hear_keeps m rows (told_to s.traffic r.sent m c) (λ p t at. h p (t.0, Contains-append_right (r ∷ []) rows t.0 t.1, t.2) at)
        (told_keeps r.sent m c (λ p e at. h p (r, Contains-append_left (r ∷ []) rows r (0, omega arith, refl), e) at) a)

brings_none : (id : PacketId) (fs : List Flight) → AllIn (λ f. f.packet.id ≢ id) fs → BringsNone id fs
brings_none id [] h = tt
brings_none id (f ∷ fs) h = (h.0, brings_none id fs h.1)

-- ---- a window's packets

get_cell : (till i : ℕ) (cs : List PlainCell) (rs : List OwnResult) → AreOwnRuns till i cs rs → (j : ℕ) (d : PlainCell)
    → slice_get (cells_in rs) j ≡ Some d
    → (c : PlainCell) × (n : ℕ) × (slice_get cs j ≡ Some c) × (d ≡ own_after till (i + j) n c)
get_cell till i [] [] h j d g = cc
get_cell till i (c ∷ cs) (r ∷ rs) h zero d g = (
  c,
  h.0.steps,
  refl,
  same_Some _ _ (sym g) ∙ h.0.leaves
      ∙ ap (λ k. own_after till k h.0.steps c) (sym (add-zero i)),
)
get_cell till i (c ∷ cs) (r ∷ rs) h (suc j) d g = rw (shifted i j) (get_cell till (suc i) cs rs h.1 j d g)
get_cell till i [] (r ∷ rs) h j d g = absurd h
get_cell till i (c ∷ cs) [] h j d g = absurd h

-- where every packet that was sent before is another, it is new to every cell that has heard those of the rows
pub new_after : (s : Setting) (w : World) (till : ℕ) (results : List OwnResult) (rows : List Row) (p : Packet) → IsReached s w
    → AreOwnRuns till 0 w.cells results → ((q : Packet) → SentIn q (w.trace ++ rows) → q.id ≢ p.id)
    → IsUnheard p.id (each_hears s.traffic 0 rows (cells_in results))
new_after s w till results rows p reached alone other = λ j q g.
    let Q = λ (f : Flight). f.packet.id ≢ p.id in
    let d = mapped (hear_rows s.traffic (0 + j) rows) (slice_get (cells_in results) j) q
    (sym (get_heard s 0 j rows (cells_in results)) ∙ g) in
    let c = get_cell till 0 w.cells results alone j d.0 d.1 in
    let flights = (handed_reached s w reached).flights j c.0 c.2 in
    let was : AllIn Q c.0.inbox = AllIn-weaker (IsFlight s w.trace j) Q (λ f h. other f.packet (sent_more f.packet w.trace rows h.0))
    c.0.inbox flights in
    let ran : AllIn Q d.0.inbox = subst (λ (b : PlainCell). AllIn Q b.inbox) (sym c.3) (run_keeps Q till (0 + j) c.1 c.0 was) in
    let heard : AllIn Q (hear_rows s.traffic (0 + j) rows d.0).inbox =
    hear_keeps Q s (0 + j) rows d.0 (λ x t at. other x (t.0, Contains-append_right w.trace rows t.0 t.1, t.2)) ran in
    brings_none p.id q.inbox (subst (λ (b : PlainCell). AllIn Q b.inbox) d.2 heard)

pub window_packets_are_new : WindowPacketsAreNew
window_packets_are_new s w till fit reached within safe results all alone merge rows after r p split sent =
    let v = after_window s w results all in
    let window : IsWindow s till w v = record { results = results; rows = all; alone = alone; merged = merge; is = refl } in
    let agree = windows_agree s w v till fit reached within safe window in
    let trace : v.trace ≡ w.trace ++ all = refl in
    let whole : v.trace ≡ (w.trace ++ rows) ++ r ∷ after = trace ∙ ap (λ l. w.trace ++ l) split
    ∙ sym (append_assoc w.trace rows (r ∷ after)) in
    let part = part_rows s fit agree.0.steps w v agree.0.comes in
    let new : part.0 ≡ rows ++ r ∷ after = sym (new_rows_are w v part.0 part.2) ∙ new_rows_are w v all trace ∙ split in
    let here : IsWithin s fit r = all_at (IsWithin s fit) rows r after
    (subst (AllIn (IsWithin s fit)) new (rows_within s fit part.1 (good_reached s fit reached.0 w reached.1))) in
    let number = packets_are_numbered s v agree.1 (w.trace ++ rows) after r p whole sent in
    let other = later_is_new s v agree.1 (w.trace ++ rows) after r p whole sent in (
      new_after s w till results rows p reached alone other,
      subst (λ n. n < s.traffic.members) (sym number.0) here.0,
      subst (λ n. n < s.traffic.until) (sym number.2) here.1,
    )
