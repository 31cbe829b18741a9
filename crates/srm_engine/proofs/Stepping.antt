-- The step of the engine is the step of the model.
use Rattle.std.proofs.Common.{◌≡◌, ◌≢◌, ℕ, suc, ◌+◌, ◌<◌, ◌≤◌, ◌^◌, true, false, cond, List, [], ◌∷◌, ◌++◌, length, Option, Some}
use Rattle.std.proofs.Common.{None, option_map, refl, sym, ap, ◌∙◌, subst, slice_get, slice_set, nat_lt, ◌==◌, eqb-true, eq-eqb}
use Rattle.std.proofs.Common.{lt-ltb, le_refl, arith, zero-add, Ordering}
use Rattle.std.specs.Ordering.{min_by_ordering}
use Rattle.std.proofs.lemmas.Bool.{eqb-false}
use Rattle.std.specs.List.{cons_option}
use Rattle.std.proofs.Math.ListN.{length-set}
use Rattle.srm_net.specs.declared.packet.Packet.{Packet}
use Rattle.srm_net.specs.Keys.{key_cmp}
use Rattle.srm_member.specs.declared.row.Row.{Row}
use Rattle.srm_cell.specs.Setting.{Setting, IsFit, arrival_of}
use Rattle.srm_cell.specs.Flights.{BringsNone}
use Rattle.srm_cell.specs.Crossings.{packets_of}
use Rattle.srm_cell.specs.Cells.{PlainCell, Event, earlier, next_event, time_of, before, Idle, Full, Spent, Done, Stepped, step_at}
use Rattle.srm_cell.specs.Cells.{own_step, hear}
use Rattle.srm_cell.specs.OwnRuns.{told_to}
use Rattle.srm_cell.proofs.CellSteps.{IsOf, IsStepOf, next_event_of, step_at_of, SentBy, before_some, some_not_idle}
use Rattle.srm_cell.proofs.Rising.{SentAt}
use Rattle.srm_cell.proofs.Hearings.{hears_not}
use Rattle.srm_model.specs.World.{World, cells_after, after_step, least_event, step, run, opening, IsReached, RunMeetsFull}
use Rattle.srm_model.specs.Schedules.{own_of}
use Rattle.srm_engine.specs.NextTimes.{least_of_times}
use Rattle.srm_model.specs.Hearing.{heard_below, all_hear}
use Rattle.srm_engine.proofs.SeenLemmas.{shown_times, times_from}
use Rattle.srm_engine.specs.Seen.{ShowCells}
use Rattle.srm_engine.specs.declared.cells.Cells.{Cells}
use Rattle.srm_member.specs.Record.{Record}
use Rattle.srm_model.specs.Totalled.{MaySend, and_sent}
use Rattle.srm_engine.proofs.Hearing.{get_heard, if_below}
use Rattle.srm_model.proofs.RunLemmas.{least_own, run_by, run_first, step_none, step_is, after_stepped}
use Rattle.srm_model.proofs.Settled.{at_member, get_after}
use Rattle.srm_model.proofs.OneStep.{arrival_is}
use Rattle.srm_model.proofs.Sequential.{good_reached, step_facts, get_below}
use Rattle.srm_engine.proofs.NewPackets.{is_new}
use Rattle.srm_model.proofs.LawProofs.{never_spent, run_on}
use Rattle.srm_net.specs.Limits.{end_of_time}
use Rattle.srm_net.proofs.Lists.{get_set_same, get_set_other, below_get}
use Rattle.std.proofs.lemmas.Option.{same_Some}
use Rattle.srm_model.proofs.PendingKeys.{strict_reached}

-- ---- the least event of all has the least of the next times

abbrev FromOn : ℕ → Option Event → Type 0
FromOn i None = Unit {0}
FromOn i (Some e) = i ≤ e.key.member

least_from : (i : ℕ) (r : Ordering) (d e : Event) → i ≤ d.key.member → i ≤ e.key.member → FromOn i (Some (min_by_ordering r d e))
least_from i r d e h g = grind arith

earlier_from : (i : ℕ) (x y : Option Event) → FromOn i x → FromOn i y → FromOn i (earlier x y)
earlier_from i None y h g = g
earlier_from i (Some d) None h g = h
earlier_from i (Some d) (Some e) h g = least_from i (key_cmp d.key e.key) d e h g

from_of : (i : ℕ) (x : Option Event) → IsOf i x → FromOn i x
from_of i None h = tt
from_of i (Some e) h = omega (arith, h)

from_less : (i : ℕ) (x : Option Event) → FromOn (suc i) x → FromOn i x
from_less i None h = tt
from_less i (Some e) h = omega (arith, h)

least_event_from : (i : ℕ) (cs : List PlainCell) → FromOn i (least_event i cs)
unfolding least_event
least_event_from i [] = tt
least_event_from i (c ∷ cs) = earlier_from i (next_event i c) (least_event (suc i) cs) (from_of i (next_event i c) (next_event_of i c))
    (from_less i (least_event (suc i) cs) (least_event_from (suc i) cs))

abbrev pub time_and_member : Event → ℕ × ℕ
time_and_member e = (e.key.time, e.key.member)

-- the next time of one member, and the least of those after it
one_more : (i : ℕ) (ts : List (Option ℕ)) (x y : Option Event) → IsOf i x → FromOn (suc i) y → least_of_times (suc i) ts
    ≡ option_map time_and_member y → least_of_times i (time_of x ∷ ts) ≡ option_map time_and_member (earlier x y)
one_more i ts x y h g e = grind arith

least_from_on : (i : ℕ) (ps : List PlainCell) → least_of_times i (times_from i ps) ≡ option_map time_and_member (least_event i ps)
unfolding least_event
least_from_on i [] = refl
least_from_on i (p ∷ ps) =
    one_more i (times_from (suc i) ps) (next_event i p) (least_event (suc i) ps) (next_event_of i p) (least_event_from (suc i) ps)
    (least_from_on (suc i) ps)

-- ---- the step

abbrev FromPair : Option (ℕ × ℕ) → Option Event → Type 0
FromPair None o = o ≡ None
FromPair (Some q) o = (e : Event) × (o ≡ Some e) × (e.key.time ≡ q.0) × (e.key.member ≡ q.1)

from_pair : (q : Option (ℕ × ℕ)) (o : Option Event) → q ≡ option_map time_and_member o → FromPair q o
from_pair q o h = grind arith

module _ {M : Type 0} (f : M → Record) (cells : Cells M) (s : Setting) (w : World) (shown : ShowCells f cells w.cells) where
  least_is_event : least_of_times 0 cells.times ≡ option_map time_and_member (least_event 0 w.cells)
  least_is_event = ap (least_of_times 0) (shown_times f cells w.cells shown) ∙ least_from_on 0 w.cells

  within : s.traffic.until ≤ s.traffic.until
  within = le_refl s.traffic.until

  pub is_over : None ≡ least_of_times 0 cells.times → step s w ≡ Idle
  is_over h = let none : least_event 0 w.cells ≡ None = from_pair None (least_event 0 w.cells) (h ∙ least_is_event) in
      step_none s s.traffic.until within w (ap (before s.traffic.until) none)

  module _ (t m : ℕ) (h : Some (t, m) ≡ least_of_times 0 cells.times) where
    found : FromPair (Some (t, m)) (least_event 0 w.cells)
    found = from_pair (Some (t, m)) (least_event 0 w.cells) (h ∙ least_is_event)

    pub is_late : s.traffic.until ≤ t → step s w ≡ Idle
    is_late le = grind (arith, found, step_none)

    module _ (early : t < s.traffic.until) where
      pub event : Event
      unfolding found
      event = (from_pair (Some (t, m)) (least_event 0 w.cells) (h ∙ least_is_event)).0

      pub member_is : event.key.member ≡ m
      unfolding event
      member_is = (from_pair (Some (t, m)) (least_event 0 w.cells) (h ∙ least_is_event)).3

      pub is_least : before s.traffic.until (least_event 0 w.cells) ≡ Some event
      unfolding event
      is_least = grind arith

      pub own_is : (p : PlainCell) → slice_get w.cells m ≡ Some p → own_step s.traffic.until m p ≡ step_at (Some event)
      own_is p g =
          ap (own_of s.traffic.until m) (sym g)
          ∙ ap (λ k. own_of s.traffic.until k (slice_get w.cells k)) (sym member_is) ∙ least_own s.traffic.until w.cells event is_least

      pub cell_there : (p : PlainCell) × (slice_get w.cells m ≡ Some p)
      cell_there = by (slice_get w.cells m) refl
        where
          by : (o : Option PlainCell) → slice_get w.cells m ≡ o → (p : PlainCell) × (slice_get w.cells m ≡ Some p)
          by (Some p) g = (p, g)
          by None g = absurd (some_not_idle event (sym (ap (own_of s.traffic.until m) (sym g)
              ∙ ap (λ k. own_of s.traffic.until k (slice_get w.cells k)) (sym member_is)
              ∙ least_own s.traffic.until w.cells event is_least)))

      pub step_by : (p : PlainCell) → slice_get w.cells m ≡ Some p → step s w ≡ after_step s w m (own_step s.traffic.until m p)
      step_by p g = step_is s s.traffic.until within w event is_least ∙ ap (λ k. after_step s w k (step_at (Some event))) member_is
          ∙ ap (after_step s w m) (sym (own_is p g))

pub after_idle : (s : Setting) (w : World) (m : ℕ) → after_step s w m Idle ≡ Idle
unfolding after_step
after_idle s w m = refl

pub after_done : (s : Setting) (w : World) (m : ℕ) (d : Stepped) → after_step s w m (Done d)
    ≡ Done (record { cells = cells_after s m d 0 w.cells; trace = w.trace ++ d.row ∷ [] })
after_done s w m d = after_stepped s s.traffic.until (le_refl s.traffic.until) w m d

-- ---- the cells after a step

same_list : {A : Type 0} (xs ys : List A) → ((j : ℕ) → slice_get xs j ≡ slice_get ys j) → xs ≡ ys
same_list [] [] h = refl
same_list [] (y ∷ ys) h = let e = h 0 in cc
same_list (x ∷ xs) [] h = let e = h 0 in cc
same_list (x ∷ xs) (y ∷ ys) h = let e : x ≡ y = same_Some x y (h 0) in let t = same_list xs ys (λ j. h (suc j)) in λ i. e i ∷ t i

module _ (s : Setting) (m : ℕ) (d : Stepped) (cs : List PlainCell) (lt : m < length cs) where
  nobody : (j : ℕ) → slice_get (cells_after s m d 0 cs) j ≡ option_map (at_member s m d j) (slice_get cs j)
  nobody j = get_after s m d j cs

  abbrev Placed : ℕ → (PlainCell → PlainCell) → Type 0
  Placed j f = option_map (at_member s m d j) (slice_get cs j) ≡ option_map f (slice_get (slice_set cs m d.cell) j)

  here : (j : ℕ) (f : PlainCell → PlainCell) → m ≡ j → f d.cell ≡ d.cell → Placed j f
  here j f e same =
      let c = below_get cs m lt in
      let at : slice_get cs j ≡ Some c.0 = ap (slice_get cs) (sym e) ∙ c.1 in
      let now : slice_get (slice_set cs m d.cell) j ≡ Some d.cell = ap (slice_get (slice_set cs m d.cell)) (sym e)
      ∙ get_set_same cs m d.cell lt in
      let yes : (j == m) ≡ true = eq-eqb j m (sym e) in
      ap (option_map (at_member s m d j)) at ∙ ap (λ b. Some (cond b d.cell (told_to s.traffic d.row.sent j c.0))) yes ∙ ap Some (sym same)
      ∙ sym (ap (option_map f) now)

  elsewhere : (j : ℕ) (f : PlainCell → PlainCell) → m ≢ j → ((c : PlainCell) → told_to s.traffic d.row.sent j c ≡ f c) → Placed j f
  elsewhere j f ne same = grind (arith, get_set_other)

  -- where nothing was sent, one cell is new; where a packet was, every other has heard it
  pub settled_is : SentBy m d.row.sent → cells_after s m d 0 cs ≡ all_hear s.traffic d.row.sent (slice_set cs m d.cell)
  settled_is by = by_sent d.row.sent refl by
    where
      told : (o : Option Packet) → d.row.sent ≡ o → (j : ℕ) (c : PlainCell) → told_to s.traffic d.row.sent j c ≡ told_to s.traffic o j c
      told o e j c = ap (λ x. told_to s.traffic x j c) e

      silent : (p : Packet) → p.id.sender ≡ m → hear s.traffic p m d.cell ≡ d.cell
      silent p e = no (arrival_of s.traffic p m) refl
        where
          no : (o : Option ℕ) → arrival_of s.traffic p m ≡ o → hear s.traffic p m d.cell ≡ d.cell
          no None h = hears_not s.traffic p m d.cell h
          no (Some at) h = absurd ((arrival_is s p m at h).1 (sym e))

      by_sent : (o : Option Packet) → d.row.sent ≡ o → SentBy m o → cells_after s m d 0 cs ≡ all_hear s.traffic o (slice_set cs m d.cell)
      by_sent None e b = same_list _ _ (λ j. nobody j ∙ elim (m == j) as
          (λ t. (m == j) ≡ t → option_map (at_member s m d j) (slice_get cs j) ≡ slice_get (slice_set cs m d.cell) j) [
            | true ↦ λ q. here j (λ c. c) (eqb-true m j q) refl ∙ plain (slice_get (slice_set cs m d.cell) j)
            | false ↦ λ q. elsewhere j (λ c. c) (eqb-false m j q) (λ c. told None e j c) ∙ plain (slice_get (slice_set cs m d.cell) j)
          ] refl)
        where
          plain : (o : Option PlainCell) → option_map (λ c. c) o ≡ o
          plain None = refl
          plain (Some c) = refl
      by_sent (Some p) e b = same_list _ _ (λ j. nobody j ∙ elim (m == j)
          as (λ t. (m == j) ≡ t → option_map (at_member s m d j) (slice_get cs j)
          ≡ slice_get (heard_below s.traffic p (length (slice_set cs m d.cell)) 0 (slice_set cs m d.cell)) j) [
            | true ↦ λ q. here j (hear s.traffic p j) (eqb-true m j q)
                (ap (λ k. hear s.traffic p k d.cell) (sym (eqb-true m j q)) ∙ silent p b)
                ∙ heard j
            | false ↦ λ q. elsewhere j (hear s.traffic p j) (eqb-false m j q) (λ c. told (Some p) e j c) ∙ heard j
          ] refl)
        where
          heard : (j : ℕ) → option_map (hear s.traffic p j) (slice_get (slice_set cs m d.cell) j)
              ≡ slice_get (heard_below s.traffic p (length (slice_set cs m d.cell)) 0 (slice_set cs m d.cell)) j
          heard j = within_all (slice_get (slice_set cs m d.cell) j) refl
              ∙ sym (get_heard s.traffic p (length (slice_set cs m d.cell)) 0 j (slice_set cs m d.cell))
            where
              within_all : (o : Option PlainCell) → slice_get (slice_set cs m d.cell) j ≡ o → option_map (hear s.traffic p j) o
                  ≡ option_map (if_below s.traffic p (length (slice_set cs m d.cell)) (0 + j)) o
              within_all None g = refl
              within_all (Some c) g =
                  let lt : j < length (slice_set cs m d.cell) = get_below (slice_set cs m d.cell) j c g in
                  let yes : nat_lt j (length (slice_set cs m d.cell)) ≡ true = lt-ltb j (length (slice_set cs m d.cell)) lt in
                  sym (ap (λ k. Some (if_below s.traffic p (length (slice_set cs m d.cell)) k c)) (zero-add j)
                  ∙ ap (λ t. Some (cond t (hear s.traffic p j c) c)) yes)

-- ---- what a step may send

few_packets : (rows : List Row) → length (packets_of rows) ≤ length rows
few_packets [] = le_refl 0
few_packets (r ∷ rows) = let h = few_packets rows in by r.sent (packets_of rows) h
  where
    by : (o : Option Packet) (ps : List Packet) → length ps ≤ length rows → length (cons_option o ps) ≤ suc (length rows)
    by None ps h = omega arith
    by (Some p) ps h = omega arith

module _ (s : Setting) (fit : IsFit s) (w : World) (reached : IsReached s w) (e : Event) (d : Stepped)
    (least : before s.traffic.until (least_event 0 w.cells) ≡ Some e) (done : step_at (Some e) ≡ Done d)
    (early : s.traffic.until ≤ end_of_time)
    (short : length w.trace + 3 < 2 ^ 64) where
  pub may_send : MaySend s.traffic.members (slice_set w.cells e.key.member d.cell) (packets_of w.trace) d.row.sent
  may_send =
      let good = good_reached s fit reached.0 w reached.1 in
      let f = step_facts s fit s.traffic.until w.cells e d least done in
      let new = is_new s fit s.traffic.until w.cells e d good (strict_reached s fit reached.0 w reached.1) least done in
      by d.row.sent refl f.sender f.sent_at (get_below w.cells e.key.member f.cell f.here) good.members new
    where
      by : (o : Option Packet) → d.row.sent ≡ o → SentBy e.key.member o → SentAt e.key.time o → e.key.member < length w.cells
          → length w.cells ≡ s.traffic.members
          → ((p : Packet) → d.row.sent ≡ Some p → (j : ℕ) (q : PlainCell) → slice_get (slice_set w.cells e.key.member d.cell) j ≡ Some q
          → BringsNone p.id q.inbox)
          → MaySend s.traffic.members (slice_set w.cells e.key.member d.cell) (packets_of w.trace) o
      by None q sb sa lt len new = tt
      by (Some p) q sb sa lt len new =
          let few = few_packets w.trace in
          let before = (before_some s.traffic.until (least_event 0 w.cells) e least).1 in
          (length-set w.cells e.key.member d.cell ∙ len, omega arith, omega arith, omega arith, new p q)

pub not_spent : (s : Setting) (fit : IsFit s) (w : World) → IsReached s w → step s w ≢ Spent
not_spent s fit w reached h = (never_spent s w fit reached).0 1
    (run_first s s.traffic.until (le_refl s.traffic.until) 0 w ∙ ap (run_by s s.traffic.until (le_refl s.traffic.until) 0) h)

pub sent_by_member : (e : Event) (d : Stepped) → step_at (Some e) ≡ Done d → SentBy e.key.member d.row.sent
sent_by_member e d x = (subst (IsStepOf e.key.member) x (step_at_of e.key.member (Some e) refl)).1

pub packets_more : (rows : List Row) (r : Row) → packets_of (rows ++ r ∷ []) ≡ and_sent r.sent (packets_of rows)
packets_more [] r = by r.sent
  where
    by : (o : Option Packet) → cons_option o [] ≡ and_sent o []
    by None = refl
    by (Some p) = refl
packets_more (q ∷ rows) r = ap (cons_option q.sent) (packets_more rows r) ∙ by q.sent r.sent (packets_of rows)
  where
    by : (o x : Option Packet) (ps : List Packet) → cons_option o (and_sent x ps) ≡ and_sent x (cons_option o ps)
    by None None ps = refl
    by None (Some p) ps = refl
    by (Some q) None ps = refl
    by (Some q) (Some p) ps = refl

-- ---- worlds that the run comes to

pub reached_more : (s : Setting) (w v : World) → IsReached s w → step s w ≡ Done v → IsReached s v
unfolding run
reached_more s w v r h = (
  r.0 + 1,
  run_on s r.0 1 (opening s) w r.1 ∙ run_first s s.traffic.until (le_refl s.traffic.until) 0 w
      ∙ ap (run_by s s.traffic.until (le_refl s.traffic.until) 0) h,
)

pub meets_full : (s : Setting) (w : World) → IsReached s w → step s w ≡ Full → RunMeetsFull s
meets_full s w r h = (
  r.0 + 1,
  run_on s r.0 1 (opening s) w r.1 ∙ run_first s s.traffic.until (le_refl s.traffic.until) 0 w
      ∙ ap (run_by s s.traffic.until (le_refl s.traffic.until) 0) h,
)

pub opening_reached : (s : Setting) → IsReached s (opening s)
unfolding run
opening_reached s = (0, refl)

pub opening_trace : (s : Setting) → (opening s).trace ≡ []
unfolding opening
opening_trace s = refl
