-- Bounds on all that a cell has pending, and the row of a step.
use Rattle.std.proofs.Common.{arith}
use Rattle.std.proofs.Common.{◌≡◌, ℕ, ◌<◌, Bool, true, false, List, [], ◌∷◌, sym, subst}
use Rattle.std.proofs.Common.{Option, Some, None, nat_lt}
use Rattle.srm_cell.proofs.CellLemmas.{first_timer, keep, next_event_is}
use Rattle.srm_cell.specs.Cells.{arrival_key, mark_key, timer_key, Done, Event, Full, Idle, PlainCell, Spent, StepOutcome, Stepped, before}
use Rattle.srm_cell.specs.Cells.{earlier, first_arrival, first_mark, handle, hear_at, next_event, sending_step, step_at}
use Rattle.srm_cell.specs.declared.flight.Flight.{Flight}
use Rattle.srm_member.proofs.AllIn.{AllIn, AllIn-place}
use Rattle.srm_member.proofs.Bounds.{kept_react}
use Rattle.srm_member.specs.React.{Reaction, react}
use Rattle.srm_member.specs.Record.{timers_of}
use Rattle.srm_member.specs.declared.cause.Cause.{Cause}
use Rattle.srm_member.specs.declared.due.Due.{Due}
use Rattle.srm_net.specs.declared.key.Key.{Key}
use Rattle.srm_net.specs.declared.packet.Body.{Body}
use Rattle.srm_net.specs.declared.packet.Packet.{Packet}
use Rattle.srm_scenario.specs.declared.mark.Mark.{Mark}
use Rattle.srm_member.specs.Record.{MemberState}
use Rattle.srm_cell.specs.Cells.{timers_in}
use Rattle.srm_member.proofs.FewerTimers.{IsSound}

-- what a member knows is sound, unless it is gone
abbrev pub SoundHeld : Option MemberState → Type 0
SoundHeld (Some m) = IsSound m
SoundHeld None = Unit {0}

abbrev pub OnEvent : (Event → Type 0) → Option Event → Type 0
OnEvent Q None = Unit {0}
OnEvent Q (Some e) = Q e

module _ (Q : Event → Type 0) where
  pub earlier_on : (x y : Option Event) → OnEvent Q x → OnEvent Q y → OnEvent Q (earlier x y)
  earlier_on x y h g = grind arith

  keep_on : (b : Bool) (e : Event) → Q e → OnEvent Q (keep b e)
  keep_on true e h = h
  keep_on false e h = tt

  pub before_on : (till : ℕ) (x : Option Event) → OnEvent Q x → OnEvent Q (before till x)
  before_on till None h = tt
  before_on till (Some e) h = keep_on (nat_lt e.key.time till) e h

abbrev pub OnStep : (Stepped → Type 0) → StepOutcome Stepped → Type 0
OnStep Q Idle = Unit {0}
OnStep Q Full = Unit {0}
OnStep Q Spent = Unit {0}
OnStep Q (Done d) = Q d

-- ---- a predicate on keys that holds of all that a cell has pending

module _ (P : Key → Type 0) (m : ℕ) where
  pub record Above (c : PlainCell) : Type 0 where
    pub flights : AllIn (λ f. P (arrival_key m f)) c.inbox
    pub marks : AllIn (λ k. P (mark_key m k)) c.script
    pub dues : AllIn (λ d. P (timer_key m d)) (timers_in c.holds)

  abbrev pub IsAbove : Event → Type 0
  IsAbove e = P e.key × Above e.rest

  arrivals_above : (c : PlainCell) (fs : List Flight) → AllIn (λ f. P (arrival_key m f)) fs → Above c
      → OnEvent IsAbove (first_arrival m c fs)
  arrivals_above c [] h a = tt
  arrivals_above c (f ∷ fs) h a = (h.0, record { flights = h.1; marks = a.marks; dues = a.dues })

  marks_above : (c : PlainCell) (ks : List Mark) → AllIn (λ k. P (mark_key m k)) ks → Above c → OnEvent IsAbove (first_mark m c ks)
  marks_above c [] h a = tt
  marks_above c (k ∷ ks) h a = (h.0, record { flights = a.flights; marks = h.1; dues = a.dues })

  timers_above : (c : PlainCell) (ds : List Due) → AllIn (λ d. P (timer_key m d)) ds → Above c → OnEvent IsAbove (first_timer m c ds)
  timers_above c [] h a = tt
  timers_above c (d ∷ ds) h a = earlier_on IsAbove (Some _) (first_timer m c ds) (h.0, a) (timers_above c ds h.1 a)

  pub next_above : (c : PlainCell) → Above c → OnEvent IsAbove (next_event m c)
  next_above c a = subst (OnEvent IsAbove) (sym (next_event_is m c))
      (earlier_on IsAbove (first_arrival m c c.inbox) _ (arrivals_above c c.inbox a.flights a)
      (earlier_on IsAbove (first_mark m c c.script) (first_timer m c (timers_in c.holds)) (marks_above c c.script a.marks a)
      (timers_above c (timers_in c.holds) a.dues a)))

  pub hear_at_above : (p : Packet) (o : Option ℕ) (c : PlainCell) →
      ((at : ℕ) → o ≡ Some at → P (arrival_key m (record { arrival = at; packet = p }))) → Above c → Above (hear_at p o c)
  hear_at_above p o c h a = grind (arith, AllIn-place)

  -- what a step leaves, where P holds of every later key
  module _ (t : ℕ) (later : (k : Key) → t < k.time → P k) where
    sending_above : (e : Event) (r : Reaction) (body : Option Body) → Above e.rest → AllIn (λ d. P (timer_key m d)) (timers_of r.state)
        → OnStep (λ d. Above d.cell) (sending_step e r body)
    sending_above e r body a h = grind arith

    handle_above : (e : Event) (holds : Option MemberState) (cause : Option Cause) → e.key.time ≡ t → Above e.rest
        → AllIn (λ d. P (timer_key m d)) (timers_in holds) → OnStep (λ d. Above d.cell) (handle e holds cause)
    unfolding handle
    handle_above e (Some k) (Some cause) et a h =
        let r = react k e.key.time cause in
        sending_above e r r.answer.body a (kept_react (λ d. P (timer_key m d)) e.key.time
        (λ d lt. later (timer_key m d) (subst (λ x. x < d.time) et lt)) k cause h)
    handle_above e (Some k) None et a h = record { flights = a.flights; marks = a.marks; dues = tt }
    handle_above e None cause et a h = tt

    pub step_above : (e : Event) → e.key.time ≡ t → Above e.rest → OnStep (λ d. Above d.cell) (step_at (Some e))
    step_above e et a = handle_above e e.rest.holds e.cause et a a.dues

-- ---- the row of a step: its key, and when its packet is sent

abbrev pub SentAt : ℕ → Option Packet → Type 0
SentAt t None = Unit {0}
SentAt t (Some p) = p.sent ≡ t

abbrev pub RowOf : Key → Stepped → Type 0
RowOf k d = (d.row.key ≡ k) × SentAt k.time d.row.sent

row_handle : (e : Event) (holds : Option MemberState) (cause : Option Cause) → OnStep (RowOf e.key) (handle e holds cause)
unfolding handle
row_handle e holds cause = grind arith

pub row_step : (e : Event) → OnStep (RowOf e.key) (step_at (Some e))
row_step e = row_handle e e.rest.holds e.cause
