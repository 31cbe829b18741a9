-- What holds of timers, with local recovery.
use Rattle.std.proofs.Common.{◌≡◌, ◌≢◌, ◌⊎◌, inl, inr, ℕ, ◌+◌, Bool, true, false, cond, List, [], ◌∷◌, refl, sym, ap}
use Rattle.std.proofs.Common.{subst, ◌∙◌, arith, Option, Some, None, is_some, nat_lt, nat_le, min}
use Rattle.std.specs.Option.{option_map}
use Rattle.std.specs.FinMap.Entries.{put, find}
use Rattle.srm_net.specs.declared.packet.Name.{Name}
use Rattle.srm_net.specs.declared.packet.Heard.{Heard}
use Rattle.srm_net.specs.declared.packet.Body.{Body}
use Rattle.srm_net.specs.declared.packet.Body.TheVariants.{Drawop, Request, Repair, Session}
use Rattle.srm_net.specs.declared.rank.Rank.{Rank}
use Rattle.srm_net.specs.declared.rank.Rank.TheVariants.{Request as asks, Repair as answers}
use Rattle.srm_net.specs.Names.{page_of, name_cmp}
use Rattle.srm_net.specs.Roles.{is_listener}
use Rattle.srm_member.specs.declared.cause.Cause.{Cause}
use Rattle.srm_member.specs.declared.cause.Cause.TheVariants.{Join, Arrival, Ask, Answer, Draw, Report}
use Rattle.srm_member.specs.declared.told.Told.TheVariants.{Busy}
use Rattle.srm_member.specs.LocalRecovery.{takes_over, local_of, mark_after, rests_for}
use Rattle.srm_member.specs.Record.{MemberState, Missing, Repairing}
use Rattle.srm_member.specs.React.{Reaction, without, has_entry, request_length, with_request_delay, with_request_first, meet}
use Rattle.srm_member.specs.React.{with_progress, lose_below, lost_below, hear_data, is_skip, after_repair, hear_repair, rest_of}
use Rattle.srm_member.specs.React.{with_timer_taken_over, hear_request_by_entry, hear_request_by_timer, hear_request}
use Rattle.srm_member.specs.React.{hear_session, after_entry, hear_body, expire_request_by_entry, expire_request, expire_repair_by_entry}
use Rattle.srm_member.specs.React.{expire_repair, draw_operation, react_active, react_listener, react, with_rest}
use Rattle.srm_member.specs.React.{with_answer_seen, telling_intervals, intervals_of}
use Rattle.srm_member.specs.LocalLaws.{expiry_in, set_in, BusyMovesNoTimer, TimersThatExpireEnd, RepairTimersAreOfHeldNames}
use Rattle.srm_member.proofs.Bounds.{request_length_pos}
use Rattle.srm_member.proofs.Changes.{Effect, Quiet, Brought, effect}
use Rattle.srm_member.proofs.LawProofs.{as_active}
use Rattle.srm_member.proofs.TableChanges.{Has, put_here, put_there, has_more, names_apart, without_here}

-- ---- repair timers are of names that are held

quiet_held : (m : MemberState) (r : Reaction) (n : Name) → Quiet m r → Has n r.state.repairs → Has n m.repairs ⊎ Has n r.state.held
quiet_held m r n q h = elim (q.grows.plans n h) [ inl x ↦ inl x | inr x ↦ inr (subst (Has n) (sym q.grows.held) x) ]

brought_held : (m : MemberState) (b : Body) (r : Reaction) (n : Name) → Brought m b r → Has n r.state.repairs
    → Has n m.repairs ⊎ Has n r.state.held
brought_held m b r n t h = elim (t.plans n h) [
  | inl x ↦ elim (t.grows.plans n x) [
    | inl y ↦ inl y
    | inr y ↦ inr (subst (Has n) (sym t.held) (has_more n t.name t.ink t.mid.held (subst (Has n) (sym t.grows.held) y)))
  ]
  | inr x ↦ inr x
]

effect_held : (m : MemberState) (cause : Cause) (r : Reaction) (n : Name) → Effect m cause r → Has n r.state.repairs
    → Has n m.repairs ⊎ Has n r.state.held
effect_held m cause r n (inl q) h = quiet_held m r n q h
effect_held m (Arrival p) r n (inr (inl b)) h = brought_held m p.body r n b h
effect_held m (Draw page ink) r n (inr (inr d)) h = inl (subst (Has n) d.repairs h)
effect_held m Join r n (inr x) h = grind arith
effect_held m (Ask k) r n (inr x) h = grind arith
effect_held m (Answer k) r n (inr x) h = grind arith
effect_held m Report r n (inr x) h = grind arith
effect_held m (Arrival p) r n (inr (inr d)) h = absurd d
effect_held m (Draw page ink) r n (inr (inl b)) h = absurd b

pub repair_timers_are_of_held_names : RepairTimersAreOfHeldNames
repair_timers_are_of_held_names m at cause n h = effect_held m cause (react m at cause) n (effect m at cause) h

-- ---- timers that expire

asking_ends : (m : MemberState) (at : ℕ) (n : Name) (o : Option Missing) → find name_cmp n m.missing ≡ o
    → expiry_in (expire_request_by_entry at n m o).state asks n ≢ Some at
asking_ends m at n None e f = (let x : None ≡ Some at = sym (ap (option_map (λ (w : Missing). w.expiry)) e) ∙ f in cc)
asking_ends m at n (Some w) e f =
    let asked = with_request_delay at n w (with_request_first w m) in
    let len = request_length asked (min (w.backoffs + 1) 10) n in
    let one = request_length_pos asked (min (w.backoffs + 1) 10) n in
    let x : Some (at + len) ≡ Some at = sym (ap (option_map (λ (v : Missing). v.expiry)) (put_here n _ m.missing)) ∙ f in
    let same : at + len ≡ at = cc in
    absurd (omega arith)

none_left : (n : Name) (es : List (Name × Repairing)) → find name_cmp n (without n es) ≡ None
none_left n es = elim (find name_cmp n (without n es))
    as (λ o. find name_cmp n (without n es) ≡ o → o ≡ None) [
      | None ↦ λ e. refl
      | Some v ↦ λ e. absurd (without_here n es (ap is_some e))
    ] refl

answering_ends : (m : MemberState) (at : ℕ) (n : Name) (o : Option Repairing) → find name_cmp n m.repairs ≡ o
    → expiry_in (expire_repair_by_entry at n m o).state answers n ≡ None
answering_ends m at n None e = ap (option_map (λ (w : Repairing). w.expiry)) e
answering_ends m at n (Some r) e =
    ap (option_map (λ (w : Repairing). w.expiry))
    (none_left n (with_rest at n m.fixed.member (mark_after 0 (local_of m.fixed r)) (with_answer_seen at r m)).repairs)

pub timers_that_expire_end : TimersThatExpireEnd
unfolding expire_request expire_repair
timers_that_expire_end m at n role = (
  subst (λ (r : Reaction). expiry_in r.state asks n ≢ Some at) (sym (as_active m at (Ask n) role))
      (asking_ends m at n (find name_cmp n m.missing) refl),
  subst (λ (r : Reaction). expiry_in r.state answers n ≡ None) (sym (as_active m at (Answer n) role))
      (answering_ends m at n (find name_cmp n m.repairs) refl),
)

-- ---- what is told busy

-- the timers are where they were
record Unmoved (m k : MemberState) : Type 0 where
  expiry : (rank : Rank) (n : Name) → expiry_in k rank n ≡ expiry_in m rank n
  set : (n : Name) → set_in k n ≡ set_in m n

abbrev IfBusy : MemberState → Reaction → Type 0
IfBusy m r = r.answer.told ≡ Busy → Unmoved m r.state

busy_if : (m : MemberState) (b : Bool) (x y : Reaction) → IfBusy m x → IfBusy m y → IfBusy m (cond b x y)
busy_if m true x y h g = h
busy_if m false x y h g = g

unmoved_same : (m k : MemberState) → k.missing ≡ m.missing → k.repairs ≡ m.repairs → Unmoved m k
unmoved_same m k a b = record {
  expiry = λ rank n. grind arith;
  set = λ n. ap (λ es. option_map (λ (r : Repairing). r.set) (find name_cmp n es)) b;
}

not_busy : (m : MemberState) (r : Reaction) → r.answer.told ≢ Busy → IfBusy m r
not_busy m r h e = absurd (h e)

data_not_busy : (at : ℕ) (n : Name) (ink : ℕ) (repaired : Bool) (m : MemberState) → (hear_data at n ink repaired m).answer.told ≢ Busy
unfolding hear_data
data_not_busy at n ink repaired m = grind arith

told_cond : (b : Bool) (r : Reaction) (k : MemberState) → r.answer.told ≢ Busy
    → (cond b r (record r { state = k })).answer.told ≢ Busy
told_cond true r k h = h
told_cond false r k h = h

session_not_busy : (at : ℕ) (hs : List Heard) (m : MemberState) (lost : List Name) → (hear_session at hs m lost).answer.told ≢ Busy
unfolding hear_session
session_not_busy at [] m lost = λ e. cc
session_not_busy at (h ∷ hs) m lost = session_not_busy at hs (after_entry at h lost m) _

asked_not_busy : (at : ℕ) (n : Name) (lost : List Name) (m : MemberState) (o : Option Missing)
    → (hear_request_by_entry at n lost m o).answer.told ≢ Busy
asked_not_busy at n lost m o = grind arith

handed_over : (n : Name) (r w : Repairing) (m : MemberState) → find name_cmp n m.repairs ≡ Some r → w.expiry ≡ r.expiry → w.set ≡ r.set
    → (V : Repairing → ℕ) → V w ≡ V r → (k : Name)
    → option_map V (find name_cmp k (put name_cmp n w m.repairs)) ≡ option_map V (find name_cmp k m.repairs)
handed_over n r w m e same set V v k = elim (names_apart k n) [
  | inl is ↦ subst (λ x. option_map V (find name_cmp x (put name_cmp n w m.repairs)) ≡ option_map V (find name_cmp x m.repairs)) (sym is)
      (ap (option_map V) (put_here n w m.repairs) ∙ ap Some v ∙ sym (ap (option_map V) e))
  | inr ne ↦ ap (option_map V) (put_there k n w m.repairs ne)
]

taken_over : (n : Name) (who : ℕ) (width : Option ℕ) (r : Repairing) (m : MemberState) → find name_cmp n m.repairs ≡ Some r
    → Unmoved m (with_timer_taken_over n who width r m)
taken_over n who width r m e = choice (takes_over m.fixed width r) _ m
    (record {
      expiry = moved;
      set = handed_over n r _ m e refl refl (λ x. x.set) refl;
    })
    (unmoved_same m m refl refl)
  where
    choice : (b : Bool) (x y : MemberState) → Unmoved m x → Unmoved m y → Unmoved m (cond b x y)
    choice true x y h g = h
    choice false x y h g = g

    moved : (rank : Rank) (k : Name)
        → expiry_in (record m { repairs = put name_cmp n (record r { requester = who; width = width }) m.repairs }) rank k
        ≡ expiry_in m rank k
    moved answers k = handed_over n r _ m e refl refl (λ x. x.expiry) refl k
    moved _ k = refl

by_timer_busy : (at : ℕ) (n : Name) (who : ℕ) (width : Option ℕ) (m : MemberState) (o : Option Repairing) → find name_cmp n m.repairs ≡ o
    → IfBusy m (hear_request_by_timer at n who width m o)
by_timer_busy at n who width m None e = λ h. cc
by_timer_busy at n who width m (Some r) e = λ h. taken_over n who width r m e

request_busy : (at : ℕ) (n : Name) (who : ℕ) (width : Option ℕ) (m : MemberState) → IfBusy m (hear_request at n who width m)
unfolding hear_request
request_busy at n who width m =
    let p = page_of n in
    let s = meet m p (n.number + 1) in
    let k = with_progress p s m in
    let lose = lose_below at p (n.number + 1) (n.number + 1) s [] k in
    let new = hear_request_by_entry at n (lost_below p (n.number + 1) s) lose (find name_cmp n lose.missing) in
    let old = hear_request_by_entry at n [] k (find name_cmp n k.missing) in
    busy_if m (nat_lt n.number s.floor) _ _ (λ h. cc)
    (busy_if m (has_entry n k.held) _ _
    (busy_if m (rests_for at k.fixed (rest_of n k) who width) _ _ (λ h. cc)
    (λ h. let u = by_timer_busy at n who width k (find name_cmp n k.repairs) refl h in record { expiry = u.expiry; set = u.set }))
    (busy_if m (nat_le s.next n.number) new old
    (not_busy m new (asked_not_busy at n (lost_below p (n.number + 1) s) lose (find name_cmp n lose.missing)))
    (not_busy m old (asked_not_busy at n [] k (find name_cmp n k.missing)))))

hear_busy : (at who : ℕ) (b : Body) (m : MemberState) → IfBusy m (hear_body at who b m)
hear_busy at who (Drawop n ink) m = not_busy m (hear_data at n ink false m) (data_not_busy at n ink false m)
hear_busy at who (Repair n ink local) m =
    let r = hear_data at n ink true m in
    not_busy m (hear_repair at n ink who local m) (told_cond (is_skip r.answer.told) r
    (after_repair at n who local r.state) (data_not_busy at n ink true m))
hear_busy at who (Request n scope) m = request_busy at n who scope m
hear_busy at who (Session hs) m = not_busy m (hear_session at hs m []) (session_not_busy at hs m [])

asking_not_busy : (at : ℕ) (n : Name) (m : MemberState) (o : Option Missing) → (expire_request_by_entry at n m o).answer.told ≢ Busy
asking_not_busy at n m o = grind arith

answering_not_busy : (at : ℕ) (n : Name) (m : MemberState) (o : Option Repairing) → (expire_repair_by_entry at n m o).answer.told ≢ Busy
answering_not_busy at n m o = grind arith

drawing_not_busy : (page ink : ℕ) (m : MemberState) → (draw_operation page ink m).answer.told ≢ Busy
unfolding draw_operation
drawing_not_busy page ink m = grind arith

active_busy : (at : ℕ) (cause : Cause) (m : MemberState) → IfBusy m (react_active m at cause)
unfolding expire_request expire_repair
active_busy at Join m = λ h. cc
active_busy at (Arrival k) m = hear_busy at k.id.sender k.body m
active_busy at (Ask n) m = not_busy m (expire_request at n m) (asking_not_busy at n m (find name_cmp n m.missing))
active_busy at (Answer n) m = not_busy m (expire_repair at n m) (answering_not_busy at n m (find name_cmp n m.repairs))
active_busy at (Draw page ink) m = not_busy m (draw_operation page ink m) (drawing_not_busy page ink m)
active_busy at Report m = λ h. cc

listener_not_busy : (m : MemberState) (cause : Cause) → (react_listener m cause).answer.told ≢ Busy
listener_not_busy m cause = grind arith

react_busy : (m : MemberState) (at : ℕ) (cause : Cause) → IfBusy m (react m at cause)
unfolding react
react_busy m at cause =
    busy_if m (is_listener m.fixed.role) (react_listener m cause) (telling_intervals cause (intervals_of m) (react_active m at cause))
    (not_busy m (react_listener m cause) (listener_not_busy m cause)) (active_busy at cause m)

pub busy_moves_no_timer : BusyMovesNoTimer
busy_moves_no_timer m at cause h = let u = react_busy m at cause h in (u.expiry, u.set)
