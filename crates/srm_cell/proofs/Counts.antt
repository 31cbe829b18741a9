-- A step at a tick leaves fewer events pending at that tick.
use Rattle.std.proofs.Common.{◌≡◌, ℕ, suc, ◌<◌, ◌≤◌, ◌+◌, List, [], ◌∷◌, map, refl, sym, ap, ◌∙◌, subst, ◌⊎◌}
use Rattle.std.proofs.Common.{inl, inr, arith, Option, Some, None, eq-eqb}
use Rattle.srm_cell.proofs.CellLemmas.{first_timer, next_event_is}
use Rattle.srm_cell.proofs.Rising.{Above, OnEvent, OnStep, earlier_on}
use Rattle.srm_cell.specs.Cells.{Done, Event, PlainCell, Stepped, cause_of_timer, first_arrival}
use Rattle.srm_cell.specs.Cells.{first_mark, handle, next_event, pending_at, step_at, untimed_at}
use Rattle.srm_cell.specs.declared.flight.Flight.{Flight}
use Rattle.srm_member.proofs.AllIn.{AllIn-each, AllIn-weaker}
use Rattle.srm_member.proofs.FewerTimers.{In, fewer_answers, fewer_asks, in_append, in_map, no_more}
use Rattle.srm_member.proofs.FewerTimers.{sound_react}
use Rattle.srm_member.specs.React.{react}
use Rattle.srm_member.specs.declared.entries.Missing.{Missing}
use Rattle.srm_member.specs.declared.entries.Repairing.{Repairing}
use Rattle.srm_member.specs.declared.cause.Cause.{Cause}
use Rattle.srm_member.specs.declared.due.Due.{Due}
use Rattle.srm_net.specs.declared.key.Key.{Key}
use Rattle.srm_net.specs.declared.packet.Name.{Name}
use Rattle.srm_net.specs.declared.rank.Rank.TheVariants.{Request, Repair}
use Rattle.srm_scenario.specs.declared.mark.Mark.{Mark}
use Rattle.srm_member.specs.Record.{MemberState}
use Rattle.srm_cell.specs.Cells.{timers_in, expiring_at}
use Rattle.srm_cell.proofs.Rising.{SoundHeld}

-- ---- what the next event takes from a cell

abbrev pub Taken : PlainCell → Event → Type 0
Taken c e =
    ((e.rest.holds ≡ c.holds) × (untimed_at e.key.time c ≡ suc (untimed_at e.key.time e.rest)))
    ⊎ ((e.rest ≡ c) × ((d : Due) × In d (timers_in c.holds) × (d.time ≡ e.key.time) × (e.cause ≡ Some (cause_of_timer d.rank d.name))))

arrival_taken : (m : ℕ) (c : PlainCell) (fs : List Flight) → c.inbox ≡ fs → OnEvent (Taken c) (first_arrival m c fs)
arrival_taken m c fs h = grind arith

mark_taken : (m : ℕ) (c : PlainCell) (ks : List Mark) → c.script ≡ ks → OnEvent (Taken c) (first_mark m c ks)
mark_taken m c ks h = grind arith

timer_taken : (m : ℕ) (c : PlainCell) (ds : List Due) → ((d : Due) → In d ds → In d (timers_in c.holds))
    → OnEvent (Taken c) (first_timer m c ds)
timer_taken m c [] h = tt
timer_taken m c (d ∷ ds) h = earlier_on (Taken c) (Some _) (first_timer m c ds) (inr (refl, (d, h d (inl refl), refl, refl)))
    (timer_taken m c ds (λ x g. h x (inr g)))

pub next_taken : (m : ℕ) (c : PlainCell) → OnEvent (Taken c) (next_event m c)
next_taken m c = grind (arith, next_event_is, earlier_on, arrival_taken, mark_taken, timer_taken)

-- ---- the count after a step

-- the timers at a tick after a reaction, where a record reacts
abbrev after_react : ℕ → Option MemberState → Option Cause → ℕ
after_react t (Some m) (Some cause) = expiring_at t (Some (react m t cause).state)
after_react t (Some m) None = 0
after_react t None cause = 0

abbrev Counted : Event → ℕ → Stepped → Type 0
Counted e n d = pending_at e.key.time d.cell ≤ untimed_at e.key.time e.rest + n

counted_handle : (e : Event) (holds : Option MemberState) (cause : Option Cause) → e.rest.holds ≡ holds
    → OnStep (Counted e (after_react e.key.time holds cause)) (handle e holds cause)
unfolding handle
counted_handle e holds cause h = grind arith

sound_handle : (e : Event) (holds : Option MemberState) (cause : Option Cause) → e.rest.holds ≡ holds → SoundHeld holds
    → OnStep (λ d. SoundHeld d.cell.holds) (handle e holds cause)
unfolding handle
sound_handle e holds cause q h = grind (arith, sound_react)

pub sound_step : (e : Event) → SoundHeld e.rest.holds → OnStep (λ d. SoundHeld d.cell.holds) (step_at (Some e))
sound_step e h = sound_handle e e.rest.holds e.cause refl h

-- no reaction leaves more timers at its tick
no_more_after : (t : ℕ) (holds : Option MemberState) (cause : Option Cause) → SoundHeld holds
    → after_react t holds cause ≤ expiring_at t holds
no_more_after t holds cause h = grind (arith, no_more)

fewer_after : (t : ℕ) (holds : Option MemberState) (cause : Option Cause) → SoundHeld holds → (d : Due) → In d (timers_in holds)
    → d.time ≡ t → cause
    ≡ Some (cause_of_timer d.rank d.name) → after_react t holds cause < expiring_at t holds
fewer_after t None cause s d h e q = absurd h
fewer_after t (Some m) cause s d h e q = subst (λ k. after_react t (Some m) k < expiring_at t (Some m)) (sym q)
    (elim (in_append d (map (λ e. record { time = e.1.expiry; rank = Request; name = e.0 }) m.missing) _ h) as
    (λ x. expiring_at t (Some (react m t (cause_of_timer d.rank d.name)).state) < expiring_at t (Some m)) [
      | inl g ↦ let r = in_map (λ (e : Name × Missing). record { time = e.1.expiry; rank = Request; name = e.0 }) d m.missing g in
          subst (λ (d : Due). expiring_at t (Some (react m t (cause_of_timer d.rank d.name)).state) < expiring_at t (Some m)) r.2
          (fewer_asks t m s r.0.0 r.0.1 r.1 (eq-eqb _ _ (ap (λ (d : Due). d.time) r.2 ∙ e)))
      | inr g ↦ let r = in_map (λ (e : Name × Repairing). record { time = e.1.expiry; rank = Repair; name = e.0 }) d m.repairs g in
          subst (λ (d : Due). expiring_at t (Some (react m t (cause_of_timer d.rank d.name)).state) < expiring_at t (Some m)) r.2
          (fewer_answers t m s r.0.0 r.0.1 r.1 (eq-eqb _ _ (ap (λ (d : Due). d.time) r.2 ∙ e)))
    ])

pub rest_sound : (c : PlainCell) (e : Event) → Taken c e → SoundHeld c.holds → SoundHeld e.rest.holds
rest_sound c e (inl h) s = subst SoundHeld (sym h.0) s
rest_sound c e (inr h) s = subst (λ (b : PlainCell). SoundHeld b.holds) (sym h.0) s

-- a step leaves fewer events at its tick
pub fewer_pending : (c : PlainCell) (e : Event) (d : Stepped) → SoundHeld c.holds → Taken c e → step_at (Some e) ≡ Done d
    → pending_at e.key.time d.cell < pending_at e.key.time c
fewer_pending c e d s taken x = grind (arith, counted_handle, no_more_after, fewer_after, rest_sound)

pub above_weaker : (P Q : Key → Type 0) → ((k : Key) → P k → Q k) → (m : ℕ) (c : PlainCell) → Above P m c → Above Q m c
above_weaker P Q f m c a = grind (arith, AllIn-weaker)

pub from_zero : (m : ℕ) (c : PlainCell) → Above (λ k. 0 ≤ k.time) m c
from_zero m c = grind (arith, AllIn-each)
