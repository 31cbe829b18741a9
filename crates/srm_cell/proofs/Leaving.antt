-- Members that left: nothing is pending at a record that is gone.
use Rattle.std.proofs.Common.{◌≡◌, ◌≢◌, ℕ, zero, suc, ◌≤◌, Bool, true, false, cond, List, [], ◌∷◌, refl, sym, ap, ◌∙◌, subst, ◌⊎◌}
use Rattle.std.proofs.Common.{inl, inr, arith, Option, Some, None, leb-true}
use Rattle.srm_net.specs.declared.packet.Packet.{Packet}
use Rattle.srm_net.specs.declared.packet.Body.{Body}
use Rattle.srm_net.specs.Keys.{rank_number, key_cmp}
use Rattle.srm_scenario.specs.Scripts.{is_mark_rank}
use Rattle.srm_net.specs.declared.rank.Rank.TheVariants.{Leave}
use Rattle.srm_scenario.specs.declared.mark.Mark.{Mark}
use Rattle.srm_member.specs.declared.cause.Cause.{Cause}
use Rattle.srm_member.specs.declared.due.Due.{Due}
use Rattle.srm_member.specs.React.{Reaction, react}
use Rattle.srm_member.proofs.AllIn.{AllIn, AllIn-place}
use Rattle.srm_member.proofs.OrderLemmas.{from_refl}
use Rattle.srm_cell.specs.declared.flight.Flight.{Flight}
use Rattle.srm_cell.specs.Setting.{HasOwnRanks, EndsAtLeave, cause_of_mark}
use Rattle.srm_cell.specs.Cells.{PlainCell, hear_at, Event, first_arrival, first_mark, next_event, before, Idle, Full, Spent, Done}
use Rattle.srm_cell.specs.Cells.{Stepped, sending_step, handle, step_at, own_step, arrival_key, mark_key}
use Rattle.srm_cell.specs.OwnRuns.{own_end}
use Rattle.srm_cell.proofs.CellLemmas.{first_timer, next_event_is}
use Rattle.srm_cell.proofs.CellSteps.{before_some}
use Rattle.srm_cell.proofs.Rising.{OnEvent, earlier_on, OnStep}
use Rattle.srm_cell.proofs.Tidy.{is_up_to, NotBefore, Least, IsTidy, RestTidy, above_least, next_tidy, tidy_step}
use Rattle.srm_cell.proofs.Counts.{Taken, next_taken}
use Rattle.srm_cell.proofs.Clear.{IsTail, RestOf, next_rest, StepOf, step_is_of, all_tail, ranks_tail}
use Rattle.srm_cell.proofs.OwnRunLemmas.{end_by, end_first, end_now}
use Rattle.srm_net.proofs.TotalOrders.{key_total}
use Rattle.srm_member.specs.Record.{MemberState}

abbrev pub IsActive : Option MemberState → Type 0
IsActive (Some m) = Unit {0}
IsActive None = ⊥

-- where the record is gone, nothing else is left
abbrev pub IsOver : Option MemberState → PlainCell → Type 0
IsOver (Some m) c = Unit {0}
IsOver None c = (c.inbox ≡ []) × (c.script ≡ [])

-- what the cell of a member has that leaves at this time, if it does
pub record Stays (leave : Option ℕ) (c : PlainCell) : Type 0 where
  pub flights : AllIn (λ f. is_up_to f.arrival leave ≡ true) c.inbox
  pub marks : EndsAtLeave leave c.script
  pub ranks : HasOwnRanks c.script
  pub over : IsOver c.holds c

-- ---- an event is pending at active records alone

nothing_left : (m : ℕ) (c : PlainCell) (r : Option MemberState) → c.holds ≡ r → IsOver r c → (e : Event) → next_event m c ≡ Some e
    → IsActive r
nothing_left m c r h over e q = grind (arith, next_event_is)

abbrev SameHolds : PlainCell → Event → Type 0
SameHolds c e = e.rest.holds ≡ c.holds

same_holds : (c : PlainCell) (e : Event) → Taken c e → SameHolds c e
same_holds c e (inl h) = h.0
same_holds c e (inr h) = ap (λ (b : PlainCell). b.holds) h.0

pub rest_active : (leave : Option ℕ) (m : ℕ) (c : PlainCell) → Stays leave c → (e : Event) → next_event m c ≡ Some e → IsActive e.rest.holds
rest_active leave m c s e q =
    subst IsActive (sym (same_holds c e (subst (OnEvent (Taken c)) q (next_taken m c)))) (nothing_left m c c.holds refl s.over e q)

sending_has : (b : Bool) (x : Stepped) → cond b (Done x) Full ≢ Spent
sending_has true x h = cc
sending_has false x h = cc

sending_not_spent : (e : Event) (r : Reaction) (body : Option Body) → sending_step e r body ≢ Spent
sending_not_spent e r None h = cc
sending_not_spent e r (Some body) h = sending_has _ _ h

handle_not_spent : (e : Event) (holds : Option MemberState) (cause : Option Cause) → IsActive holds → handle e holds cause ≢ Spent
unfolding handle
handle_not_spent e (Some m) (Some cause) a h = let r = react m e.key.time cause in sending_not_spent e r r.answer.body h
handle_not_spent e (Some m) None a h = cc
handle_not_spent e None cause a h = absurd a

pub not_spent : (e : Event) → IsActive e.rest.holds → step_at (Some e) ≢ Spent
not_spent e a h = handle_not_spent e e.rest.holds e.cause a h

-- ---- at a leave nothing else is pending

-- a leave is the first mark of the script
abbrev LeaveOf : ℕ → PlainCell → Event → Type 0
LeaveOf m c e = e.cause ≡ None
    → (k : Mark) × (ks : List Mark) × (c.script ≡ k ∷ ks) × (cause_of_mark k.rank k ≡ None) × (e.rest.inbox ≡ c.inbox)
    × (e.rest.script ≡ ks) × (e.key ≡ mark_key m k)

arrival_leaves : (m : ℕ) (c : PlainCell) (fs : List Flight) → OnEvent (LeaveOf m c) (first_arrival m c fs)
arrival_leaves m c [] = tt
arrival_leaves m c (f ∷ fs) = λ h. cc

mark_leaves : (m : ℕ) (c : PlainCell) (ks : List Mark) → c.script ≡ ks → OnEvent (LeaveOf m c) (first_mark m c ks)
mark_leaves m c [] h = tt
mark_leaves m c (k ∷ ks) h = λ none. (k, ks, h, none, refl, refl, refl)

timer_leaves : (m : ℕ) (c : PlainCell) (ds : List Due) → OnEvent (LeaveOf m c) (first_timer m c ds)
timer_leaves m c [] = tt
timer_leaves m c (d ∷ ds) = earlier_on (LeaveOf m c) (Some _) (first_timer m c ds) (λ h. cc) (timer_leaves m c ds)

next_leaves : (m : ℕ) (c : PlainCell) → OnEvent (LeaveOf m c) (next_event m c)
next_leaves m c = grind (arith, next_event_is, earlier_on, arrival_leaves, mark_leaves, timer_leaves)

-- a mark without a cause is a leave
leave_rank : (k : Mark) → is_mark_rank k.rank ≡ true → cause_of_mark k.rank k ≡ None → k.rank ≡ Leave
leave_rank k own none = grind arith

-- an arrival at the tick of a leave, or before it, comes before the leave
arrival_first : (m : ℕ) (k : Mark) (f : Flight) → k.rank ≡ Leave → f.arrival ≤ k.at → NotBefore (mark_key m k) (arrival_key m f) → ⊥
unfolding rank_number
arrival_first m k f is le h = grind arith

no_flight : (leave m : ℕ) (k : Mark) (fs : List Flight) → k.rank ≡ Leave → leave ≡ k.at
    → AllIn (λ f. is_up_to f.arrival (Some leave) ≡ true) fs
    → AllIn (λ f. NotBefore (mark_key m k) (arrival_key m f)) fs → fs ≡ []
no_flight leave m k [] is e up from = refl
no_flight leave m k (f ∷ fs) is e up from = absurd (arrival_first m k f is (let le = leb-true _ _ up.0 in omega arith) from.0)

-- ---- cells stay so

-- the record after a step is active, or the step was a leave
abbrev ActiveOrLeft : Event → Stepped → Type 0
ActiveOrLeft e d = IsActive d.cell.holds ⊎ (e.cause ≡ None)

active_handle : (e : Event) (holds : Option MemberState) (cause : Option Cause) → e.cause ≡ cause
    → OnStep (ActiveOrLeft e) (handle e holds cause)
unfolding handle
active_handle e holds cause q = grind arith

active_over : (r : Option MemberState) (c : PlainCell) → IsActive r → IsOver r c
active_over (Some m) c h = tt
active_over None c h = absurd h

over_by : (r : Option MemberState) (c : PlainCell) → (c.inbox ≡ []) × (c.script ≡ []) → IsOver r c
over_by (Some m) c h = tt
over_by None c h = h

marks_tail : (leave : Option ℕ) (ys xs : List Mark) → IsTail ys xs → EndsAtLeave leave xs → EndsAtLeave leave ys
marks_tail leave ys xs (inl e) h = subst (EndsAtLeave leave) (sym e) h
marks_tail leave ys xs (inr e) h = (subst (EndsAtLeave leave) e.1 h).1

-- after a leave nothing is pending
left_over : (leave : Option ℕ) (m : ℕ) (c : PlainCell) (e : Event) (d : Stepped) → IsTidy c → Stays leave c → next_event m c ≡ Some e
    → StepOf e d → e.cause ≡ None → (d.cell.inbox ≡ []) × (d.cell.script ≡ [])
left_over leave m c e d tidy s q did none =
    let l = subst (OnEvent (LeaveOf m c)) q (next_leaves m c) none in
    let k = l.0 in
    let marks = (subst (EndsAtLeave leave) l.2 s.marks).0 l.3 in
    let rank = (subst HasOwnRanks l.2 s.ranks).0 in
    let least : Least e.key (next_event m c) = subst (Least e.key) (sym q) (from_refl key_cmp key_total e.key) in
    let from = (above_least e.key m c tidy least).flights in
    let from_k : AllIn (λ f. NotBefore (mark_key m k) (arrival_key m f)) c.inbox =
    subst (λ x. AllIn (λ f. NotBefore x (arrival_key m f)) c.inbox) l.6 from in
    let up : AllIn (λ f. is_up_to f.arrival (Some k.at) ≡ true) c.inbox =
    subst (λ o. AllIn (λ f. is_up_to f.arrival o ≡ true) c.inbox) marks.0 s.flights in
    let empty = no_flight k.at m k c.inbox (leave_rank k rank l.3) refl up from_k in
    (did.inbox ∙ l.4 ∙ empty, did.script ∙ l.5 ∙ marks.1)

pub stays_step : (leave : Option ℕ) (m : ℕ) (c : PlainCell) (e : Event) (d : Stepped) → IsTidy c → Stays leave c → next_event m c ≡ Some e
    → step_at (Some e) ≡ Done d → Stays leave d.cell
stays_step leave m c e d tidy s q x =
    let rest_of : RestOf c e = subst (OnEvent (RestOf c)) q (next_rest m c) in
    let did : StepOf e d = subst (OnStep (StepOf e)) x (step_is_of e) in
    let active : ActiveOrLeft e d = subst (OnStep (ActiveOrLeft e)) x (active_handle e e.rest.holds e.cause refl) in
    record {
      flights = subst (AllIn (λ f. is_up_to f.arrival leave ≡ true)) (sym did.inbox)
          (all_tail (λ f. is_up_to f.arrival leave ≡ true) _ _ rest_of.inbox s.flights);
      marks = subst (EndsAtLeave leave) (sym did.script) (marks_tail leave _ _ rest_of.script s.marks);
      ranks = subst HasOwnRanks (sym did.script) (ranks_tail _ _ rest_of.script s.ranks);
      over = elim active [
        | inl a ↦ active_over d.cell.holds d.cell a
        | inr none ↦ over_by d.cell.holds d.cell (left_over leave m c e d tidy s q did none)
      ];
    }

pub stays_hear_at : (leave : Option ℕ) (p : Packet) (o : Option ℕ) (c : PlainCell)
    → ((at : ℕ) → o ≡ Some at → (is_up_to at leave ≡ true) × IsActive c.holds) → Stays leave c → Stays leave (hear_at p o c)
stays_hear_at leave p o c h s = grind (arith, AllIn-place)

-- ---- own runs

pub own_step_not_spent : (leave : Option ℕ) (till m : ℕ) (c : PlainCell) → Stays leave c → own_step till m c ≢ Spent
unfolding own_step
own_step_not_spent leave till m c s h = elim (before till (next_event m c)) as (λ o. before till (next_event m c) ≡ o → ⊥) [
  | None ↦ λ q. let x : Idle ≡ Spent = sym (ap step_at q) ∙ h in cc
  | Some e ↦ λ q. not_spent e (rest_active leave m c s e (before_some till (next_event m c) e q).0) (sym (ap step_at q) ∙ h)
] refl

stays_own : (leave : Option ℕ) (till m : ℕ) (c : PlainCell) (d : Stepped) → IsTidy c → Stays leave c → own_step till m c ≡ Done d
    → Stays leave d.cell × IsTidy d.cell
unfolding own_step
stays_own leave till m c d tidy s h = elim (before till (next_event m c)) as
    (λ o. before till (next_event m c) ≡ o → Stays leave d.cell × IsTidy d.cell) [
      | None ↦ λ q. let x : Idle ≡ Done d = sym (ap step_at q) ∙ h in cc
      | Some e ↦ λ q.
          let next = (before_some till (next_event m c) e q).0 in
          let x = sym (ap step_at q) ∙ h in (
            stays_step leave m c e d tidy s next x,
            subst (OnStep (λ d. IsTidy d.cell)) x
                (tidy_step e (subst (OnEvent RestTidy) next (next_tidy m c tidy))),
          )
    ] refl

-- an own run meets no record that is gone
pub own_never_spent : (leave : Option ℕ) (till m n : ℕ) (c : PlainCell) → IsTidy c → Stays leave c → own_end till m n c ≢ Spent
own_never_spent leave till m zero c tidy s h = own_step_not_spent leave till m c s (sym (end_now till m c) ∙ h)
own_never_spent leave till m (suc n) c tidy s h = elim (own_step till m c) as (λ o. own_step till m c ≡ o → ⊥) [
  | Idle ↦ λ q. let x : Idle ≡ Spent = sym (ap (end_by till m n) q) ∙ sym (end_first till m n c) ∙ h in cc
  | Full ↦ λ q. let x : Full ≡ Spent = sym (ap (end_by till m n) q) ∙ sym (end_first till m n c) ∙ h in cc
  | Spent ↦ λ q. own_step_not_spent leave till m c s q
  | Done d ↦ λ q. let after = stays_own leave till m c d tidy s q in
      own_never_spent leave till m n d.cell after.1 after.0 (sym (ap (end_by till m n) q) ∙ sym (end_first till m n c) ∙ h)
] refl

-- a member that is gone after a step left at the time of the step
pub left_at : (leave : Option ℕ) (m : ℕ) (c : PlainCell) (e : Event) (d : Stepped) → Stays leave c → next_event m c ≡ Some e
    → step_at (Some e) ≡ Done d → IsActive d.cell.holds ⊎ (leave ≡ Some e.key.time)
left_at leave m c e d s q x = grind (arith, active_handle, next_leaves)
