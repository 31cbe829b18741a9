-- Whose events a cell's are, what a cell hears, and events before an end.
use Rattle.std.proofs.Common.{◌≡◌, ℕ, ◌≤◌, Bool, true, false, List, [], ◌∷◌, refl, sym, subst, ◌≢◌, arith}
use Rattle.std.proofs.Common.{nat_lt, Option, Some, None}
use Rattle.std.proofs.Common.{◌<◌}
use Rattle.srm_cell.proofs.CellLemmas.{first_timer, keep, next_event_is, outcome_map, own_step_late, stepped_map}
use Rattle.srm_cell.specs.Cells.{Done, Event, Full, Idle, PlainCell, Spent, StepOutcome, Stepped, before, earlier, first_arrival}
use Rattle.srm_cell.specs.Cells.{first_mark, handle, hear, hear_at, next_event, own_step, step_at}
use Rattle.srm_cell.specs.Flights.{flight_total}
use Rattle.srm_cell.specs.OwnRuns.{told_to}
use Rattle.srm_cell.specs.Setting.{Traffic, arrival_of}
use Rattle.srm_cell.specs.declared.flight.Flight.{Flight}
use Rattle.srm_member.proofs.OrderLemmas.{place-comm}
use Rattle.srm_member.specs.declared.cause.Cause.{Cause}
use Rattle.srm_member.specs.declared.due.Due.{Due}
use Rattle.srm_net.specs.declared.packet.Packet.{Packet}
use Rattle.srm_scenario.specs.declared.mark.Mark.{Mark}
use Rattle.srm_member.specs.Record.{MemberState}
use Rattle.srm_cell.specs.Cells.{timers_in}

-- ---- whose events a cell's are

abbrev pub IsOf : ℕ → Option Event → Type 0
IsOf m None = Unit {0}
IsOf m (Some e) = e.key.member ≡ m

earlier_of : (m : ℕ) (x y : Option Event) → IsOf m x → IsOf m y → IsOf m (earlier x y)
earlier_of m x y h g = grind arith

keep_of : (m : ℕ) (b : Bool) (e : Event) → IsOf m (Some e) → IsOf m (keep b e)
keep_of m true e h = h
keep_of m false e h = tt

pub before_of : (m till : ℕ) (x : Option Event) → IsOf m x → IsOf m (before till x)
before_of m till None h = tt
before_of m till (Some e) h = keep_of m (nat_lt e.key.time till) e h

arrival_is_of : (m : ℕ) (c : PlainCell) (fs : List Flight) → IsOf m (first_arrival m c fs)
arrival_is_of m c [] = tt
arrival_is_of m c (f ∷ fs) = refl

mark_is_of : (m : ℕ) (c : PlainCell) (ks : List Mark) → IsOf m (first_mark m c ks)
mark_is_of m c [] = tt
mark_is_of m c (k ∷ ks) = refl

timer_is_of : (m : ℕ) (c : PlainCell) (ds : List Due) → IsOf m (first_timer m c ds)
timer_is_of m c [] = tt
timer_is_of m c (d ∷ ds) = earlier_of m (Some _) (first_timer m c ds) refl (timer_is_of m c ds)

pub next_event_of : (m : ℕ) (c : PlainCell) → IsOf m (next_event m c)
next_event_of m c = subst (IsOf m) (sym (next_event_is m c))
    (earlier_of m _ _ (arrival_is_of m c c.inbox) (earlier_of m _ _ (mark_is_of m c c.script) (timer_is_of m c (timers_in c.holds))))

-- a packet of this sender, if any
abbrev pub SentBy : ℕ → Option Packet → Type 0
SentBy m None = Unit {0}
SentBy m (Some p) = p.id.sender ≡ m

abbrev pub IsStepOf : ℕ → StepOutcome Stepped → Type 0
IsStepOf m Idle = Unit {0}
IsStepOf m Full = Unit {0}
IsStepOf m Spent = Unit {0}
IsStepOf m (Done d) = (d.row.key.member ≡ m) × SentBy m d.row.sent

pub handle_of : (m : ℕ) (e : Event) (holds : Option MemberState) (cause : Option Cause) → e.key.member ≡ m
    → IsStepOf m (handle e holds cause)
unfolding handle
handle_of m e holds cause h = grind arith

pub step_at_of : (m : ℕ) (x : Option Event) → IsOf m x → IsStepOf m (step_at x)
step_at_of m None h = tt
step_at_of m (Some e) h = handle_of m e e.rest.holds e.cause h

pub own_step_of : (till m : ℕ) (c : PlainCell) → IsStepOf m (own_step till m c)
unfolding own_step
own_step_of till m c = step_at_of m (before till (next_event m c)) (before_of m till (next_event m c) (next_event_of m c))

pub own_step_is : (till m : ℕ) (c : PlainCell) (d : Stepped) → own_step till m c ≡ Done d → (d.row.key.member ≡ m) × SentBy m d.row.sent
own_step_is till m c d e = subst (IsStepOf m) e (own_step_of till m c)

-- ---- two packets of different senders may be heard in either order

hear_at_comm : (p q : Packet) (a b : Option ℕ) (c : PlainCell) → p.id.sender ≢ q.id.sender → hear_at p a (hear_at q b c)
    ≡ hear_at q b (hear_at p a c)
hear_at_comm p q a b c ne = grind (arith, place-comm, flight_total)

unmapped : (x : StepOutcome Stepped) → x ≡ outcome_map (stepped_map (λ c. c)) x
unmapped x = grind arith

module _ (s : Traffic) where
  pub told_comm : (a b : ℕ) → a ≢ b → (x y : Option Packet) → SentBy a x → SentBy b y → (m : ℕ) (c : PlainCell)
      → told_to s x m (told_to s y m c) ≡ told_to s y m (told_to s x m c)
  unfolding hear
  told_comm a b ne x y h g m c = grind (arith, hear_at_comm)

  -- ---- a cell hears late packets alone

  abbrev IsLateFor : ℕ → Option Packet → Type 0
  IsLateFor till x = (p : Packet) → x ≡ Some p → (m at : ℕ) → arrival_of s p m ≡ Some at → till ≤ at

  hear_at_late : (till m : ℕ) (p : Packet) (a : Option ℕ) → ((at : ℕ) → a ≡ Some at → till ≤ at) → (c : PlainCell)
      → own_step till m (hear_at p a c) ≡ outcome_map (stepped_map (hear_at p a)) (own_step till m c)
  hear_at_late till m p None h c = unmapped (own_step till m c)
  hear_at_late till m p (Some at) h c = own_step_late till p at (h at refl) m c

  pub told_late : (till m : ℕ) (x : Option Packet) → IsLateFor till x → (c : PlainCell) → own_step till m (told_to s x m c)
      ≡ outcome_map (stepped_map (told_to s x m)) (own_step till m c)
  unfolding hear
  told_late till m None h c = unmapped (own_step till m c)
  told_late till m (Some p) h c = hear_at_late till m p (arrival_of s p m) (h p refl m) c

-- ---- events before an end

pub before_some : (till : ℕ) (x : Option Event) (e : Event) → before till x ≡ Some e → (x ≡ Some e) × (e.key.time < till)
before_some till x e h = grind arith

pub before_more : (till until : ℕ) → till ≤ until → (x : Option Event) (e : Event) → before till x ≡ Some e → before until x ≡ Some e
before_more till until le x e h = grind arith

-- ---- steps that are neither the last nor refused

handle_not_idle : (e : Event) (holds : Option MemberState) (cause : Option Cause) → handle e holds cause ≢ Idle
unfolding handle
handle_not_idle e holds cause h = grind arith

pub some_not_idle : (e : Event) → step_at (Some e) ≢ Idle
some_not_idle e h = handle_not_idle e _ _ h
