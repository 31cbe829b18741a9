-- A cell's own step, and what a late arrival leaves of it.
use Rattle.std.proofs.Common.{◌≡◌, ℕ, ◌≤◌, Bool, true, false, cond, List, [], ◌∷◌, refl, sym, ap, ◌∙◌, ◌≢◌, arith, Ordering, Less}
use Rattle.std.proofs.Common.{Equal, Greater, ltb-true, lt-ltb, nat_lt, Option, Some, None, option_map}
use Rattle.std.specs.Ordering.{min_by_ordering, ordering_reverse}
use Rattle.srm_cell.specs.Cells.{Done, Event, Full, Idle, PlainCell, Spent, StepOutcome, Stepped, before, cause_of_timer, earlier}
use Rattle.srm_cell.specs.Cells.{first_arrival, first_mark, handle, hear_at, next_event, next_timer, own_step, step_at, timer_key}
use Rattle.srm_cell.specs.Flights.{flight_cmp}
use Rattle.srm_cell.specs.declared.flight.Flight.{Flight}
use Rattle.srm_member.proofs.OrderLemmas.{head_le}
use Rattle.srm_member.specs.Record.{due_cmp, earliest, earlier_timer}
use Rattle.srm_member.specs.declared.cause.Cause.{Cause}
use Rattle.srm_member.specs.declared.due.Due.{Due}
use Rattle.srm_net.specs.Keys.{key_cmp}
use Rattle.srm_net.specs.Orders.{place}
use Rattle.srm_net.specs.declared.key.Key.{Key}
use Rattle.srm_net.specs.declared.packet.Packet.{Packet}
use Rattle.srm_scenario.specs.declared.mark.Mark.{Mark}
use Rattle.srm_net.proofs.Basics.{nat_cmp_self}
use Rattle.srm_net.proofs.TotalOrders.{key_total}
use Rattle.srm_member.specs.Record.{MemberState}
use Rattle.srm_cell.specs.Cells.{timers_in}

-- ---- the earliest event before an end

abbrev pub keep : Bool → Event → Option Event
keep b e = cond b (Some e) None

picked : (r : Ordering) (bd be : Bool) (d e : Event) → (r ≢ Greater → be ≡ true → bd ≡ true) → (r ≡ Greater → bd ≡ true → be ≡ true) →
    cond (elim r [ Less ↦ bd | Equal ↦ bd | Greater ↦ be ]) (Some (min_by_ordering r d e)) None
    ≡ cond bd (cond be (Some (min_by_ordering r d e)) (Some d)) (keep be e)
picked Less true true d e f g = refl
picked Less true false d e f g = refl
picked Less false true d e f g = cc (f (λ e. cc) refl)
picked Less false false d e f g = refl
picked Equal true true d e f g = refl
picked Equal true false d e f g = refl
picked Equal false true d e f g = cc (f (λ e. cc) refl)
picked Equal false false d e f g = refl
picked Greater true true d e f g = refl
picked Greater true false d e f g = cc (g refl refl)
picked Greater false true d e f g = refl
picked Greater false false d e f g = refl

-- of two keys the lesser has no later time
pub first_le : (k l : Key) → key_cmp k l ≢ Greater → k.time ≤ l.time
first_le k l h = head_le k.time l.time _ h

pub second_le : (k l : Key) → key_cmp k l ≡ Greater → l.time ≤ k.time
second_le k l h = first_le l k (λ g. let e : Greater ≡ Less = sym g ∙ key_total.antisymm l k ∙ ap ordering_reverse h in cc)

pub before-min : (till : ℕ) (r : Ordering) (d e : Event) → before till (Some (min_by_ordering r d e))
    ≡ cond (elim r [ Less ↦ nat_lt d.key.time till | Equal ↦ nat_lt d.key.time till | Greater ↦ nat_lt e.key.time till ])
    (Some (min_by_ordering r d e)) None
before-min till r d e = grind arith

both_kept : (bd be : Bool) (r : Ordering) (d e : Event) → key_cmp d.key e.key ≡ r → earlier (keep bd d) (keep be e)
    ≡ cond bd (cond be (Some (min_by_ordering r d e)) (Some d)) (keep be e)
both_kept true true r d e h = rw h
both_kept true false r d e h = refl
both_kept false be r d e h = refl

none_left : (b : Bool) (d : Event) → keep b d ≡ earlier (keep b d) None
none_left true d = refl
none_left false d = refl

pub before-earlier : (till : ℕ) (x y : Option Event) → before till (earlier x y) ≡ earlier (before till x) (before till y)
before-earlier till None y = refl
before-earlier till (Some d) None = none_left (nat_lt d.key.time till) d
before-earlier till (Some d) (Some e) =
    let r = key_cmp d.key e.key in
    before-min till r d e
    ∙ picked r (nat_lt d.key.time till) (nat_lt e.key.time till) d e
    (λ ng be. let le = first_le d.key e.key ng in let lt = ltb-true _ _ be in lt-ltb _ _ (omega arith))
    (λ g bd. let le = second_le d.key e.key g in let lt = ltb-true _ _ bd in lt-ltb _ _ (omega arith))
    ∙ sym (both_kept (nat_lt d.key.time till) (nat_lt e.key.time till) r d e refl)

-- ---- the first of all timers

abbrev timer_event : ℕ → PlainCell → Due → Event
timer_event m c d = record { key = timer_key m d; cause = Some (cause_of_timer d.rank d.name); rest = c }

abbrev pub first_timer : ℕ → PlainCell → List Due → Option Event
first_timer m c [] = None
first_timer m c (d ∷ ds) = earlier (Some (timer_event m c d)) (first_timer m c ds)

timer_keys : (m : ℕ) (d e : Due) → key_cmp (timer_key m d) (timer_key m e) ≡ due_cmp d e
timer_keys m d e = let s = nat_cmp_self m in simp s

sooner_by : (m : ℕ) (c : PlainCell) (r : Ordering) (d e : Due) → next_timer m c (Some (min_by_ordering r d e))
    ≡ Some (min_by_ordering r (timer_event m c d) (timer_event m c e))
sooner_by m c Less d e = refl
sooner_by m c Equal d e = refl
sooner_by m c Greater d e = refl

sooner_timer : (m : ℕ) (c : PlainCell) (d : Due) (o : Option Due) → next_timer m c (Some (earlier_timer d o))
    ≡ earlier (Some (timer_event m c d)) (next_timer m c o)
sooner_timer m c d None = refl
sooner_timer m c d (Some e) =
    sooner_by m c (due_cmp d e) d e ∙ ap (λ r. Some (min_by_ordering r (timer_event m c d) (timer_event m c e))) (sym (timer_keys m d e))

first_timer_is : (m : ℕ) (c : PlainCell) (ds : List Due) → next_timer m c (earliest ds) ≡ first_timer m c ds
first_timer_is m c [] = refl
first_timer_is m c (d ∷ ds) = sooner_timer m c d (earliest ds) ∙ ap (earlier (Some (timer_event m c d))) (first_timer_is m c ds)

-- the next event is the first of the first arrival, the first mark and all timers
pub next_event_is : (m : ℕ) (c : PlainCell) → next_event m c ≡ earlier (first_arrival m c c.inbox)
    (earlier (first_mark m c c.script) (first_timer m c (timers_in c.holds)))
unfolding next_event
next_event_is m c = ap (λ o. earlier (first_arrival m c c.inbox) (earlier (first_mark m c c.script) o))
    (first_timer_is m c (timers_in c.holds))

-- ---- a change of the rest of the cell that no event before the end sees

abbrev pub event_map : (PlainCell → PlainCell) → Event → Event
event_map h e = record e { rest = h e.rest }

abbrev pub stepped_map : (PlainCell → PlainCell) → Stepped → Stepped
stepped_map h d = record d { cell = h d.cell }

abbrev pub outcome_map : {A B : Type 0} → (A → B) → StepOutcome A → StepOutcome B
outcome_map f Idle = Idle
outcome_map f Full = Full
outcome_map f Spent = Spent
outcome_map f (Done x) = Done (f x)

pub earlier-map : (h : PlainCell → PlainCell) (x y : Option Event) → earlier (option_map (event_map h) x) (option_map (event_map h) y)
    ≡ option_map (event_map h) (earlier x y)
earlier-map h x y = grind arith

keep-map : (h : PlainCell → PlainCell) (b : Bool) (e : Event) → keep b (event_map h e) ≡ option_map (event_map h) (keep b e)
keep-map h true e = refl
keep-map h false e = refl

before-map : (h : PlainCell → PlainCell) (till : ℕ) (x : Option Event) → before till (option_map (event_map h) x)
    ≡ option_map (event_map h) (before till x)
before-map h till None = refl
before-map h till (Some e) = keep-map h (nat_lt e.key.time till) e

module _ (till : ℕ) (p : Packet) (at : ℕ) (late : till ≤ at) where
  abbrev late_hear : PlainCell → PlainCell
  late_hear c = hear_at p (Some at) c

  abbrev flight : Flight
  flight = record { arrival = at; packet = p }

  marks_alike : (m : ℕ) (c : PlainCell) (ks : List Mark) → first_mark m (late_hear c) ks
      ≡ option_map (event_map late_hear) (first_mark m c ks)
  marks_alike m c [] = refl
  marks_alike m c (k ∷ ks) = refl

  timers_alike : (m : ℕ) (c : PlainCell) (ds : List Due) → first_timer m (late_hear c) ds
      ≡ option_map (event_map late_hear) (first_timer m c ds)
  timers_alike m c [] = refl
  timers_alike m c (d ∷ ds) = rw (timers_alike m c ds) (earlier-map late_hear (Some _) (first_timer m c ds))

  arrivals_alike : (m : ℕ) (c : PlainCell) (fs : List Flight) → before till (first_arrival m (late_hear c) (place flight_cmp flight fs))
      ≡ option_map (event_map late_hear) (before till (first_arrival m c fs))
  arrivals_alike m c fs = grind arith

  -- the least own event before the end is the same, and what is left of the cell hears the packet
  all_alike : (m : ℕ) (c : PlainCell) → before till (earlier (first_arrival m (late_hear c) (place flight_cmp flight c.inbox))
      (earlier (first_mark m (late_hear c) c.script) (first_timer m (late_hear c) (timers_in c.holds))))
      ≡ option_map (event_map late_hear)
      (before till (earlier (first_arrival m c c.inbox) (earlier (first_mark m c c.script) (first_timer m c (timers_in c.holds)))))
  all_alike m c = grind (arith, before-earlier, marks_alike, timers_alike, earlier-map, before-map, arrivals_alike)

  next_event_alike : (m : ℕ) (c : PlainCell) → before till (next_event m (late_hear c))
      ≡ option_map (event_map late_hear) (before till (next_event m c))
  next_event_alike m c = grind (arith, next_event_is, all_alike)

  handle_alike : (e : Event) (holds : Option MemberState) (cause : Option Cause) → handle (event_map late_hear e) holds cause
      ≡ outcome_map (stepped_map late_hear) (handle e holds cause)
  unfolding handle
  handle_alike e holds cause = grind arith

  step_alike : (o : Option Event) → step_at (option_map (event_map late_hear) o) ≡ outcome_map (stepped_map late_hear) (step_at o)
  step_alike None = refl
  step_alike (Some e) = handle_alike e e.rest.holds e.cause

  -- a flight that arrives at the end or later changes nothing of the own step
  pub own_step_late : (m : ℕ) (c : PlainCell) → own_step till m (late_hear c) ≡ outcome_map (stepped_map late_hear) (own_step till m c)
  unfolding own_step
  own_step_late m c = ap step_at (next_event_alike m c) ∙ step_alike (before till (next_event m c))
