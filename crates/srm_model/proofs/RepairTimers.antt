-- What reactions set repair timers for, and what they send for.
use Rattle.std.proofs.Common.{◌≡◌, ◌∙◌, ◌⊎◌, inl, inr, ℕ, zero, suc, ◌+◌, Bool, true, false, cond, List, [], ◌∷◌, ◌++◌, Option, Some, None}
use Rattle.std.proofs.Common.{refl, sym, ap, subst, is_some, nat_lt, nat_le, ◌&&◌, ◌-◌}
use Rattle.std.specs.FinMap.Entries.{find}
use Rattle.srm_net.specs.declared.packet.Name.{Name}
use Rattle.srm_net.specs.declared.packet.PageId.{PageId}
use Rattle.srm_net.specs.declared.packet.Heard.{Heard}
use Rattle.srm_net.specs.declared.packet.Body.{Body}
use Rattle.srm_net.specs.declared.packet.Body.TheVariants.{Drawop, Request, Repair, Session}
use Rattle.srm_net.specs.declared.packet.Local.{Local}
use Rattle.srm_net.specs.declared.packet.Packet.{Packet}
use Rattle.srm_net.specs.Limits.{most_drawn}
use Rattle.srm_net.specs.Names.{page_of, name_in, name_cmp}
use Rattle.srm_net.specs.Roles.{is_listener, is_sender}
use Rattle.srm_member.specs.declared.cause.Cause.{Cause}
use Rattle.srm_member.specs.declared.cause.Cause.TheVariants.{Join, Arrival, Ask, Answer, Draw, Report}
use Rattle.srm_member.specs.declared.entries.Missing.{Missing}
use Rattle.srm_member.specs.declared.told.Told.TheVariants.{Sent, Skip}
use Rattle.srm_member.specs.declared.entries.Repairing.{Repairing}
use Rattle.srm_member.specs.Record.{MemberState, Progress}
use Rattle.srm_member.specs.React.{Reaction, after_entry, draw_operation, expire_repair, expire_repair_by_entry, expire_request}
use Rattle.srm_member.specs.React.{expire_request_by_entry, has_entry, hear_body, hear_data, hear_repair, hear_request}
use Rattle.srm_member.specs.React.{hear_request_by_entry, hear_request_by_timer, hear_request_of_held, hear_session}
use Rattle.srm_member.specs.React.{is_skip, listen, after_repair, begins_second_step, rest_of, with_answer_seen, repair_length}
use Rattle.srm_member.specs.React.{listen_data, lose_below, lose_from, lose_one, lost_below, lost_by_entry, meet}
use Rattle.srm_member.specs.React.{own_progress, page_heard, react, react_active, react_listener, telling_intervals, intervals_of}
use Rattle.srm_member.specs.React.{with_losses_begun, with_progress, with_repair_seen, with_rest, with_second_step, with_timer_set}
use Rattle.srm_member.specs.LocalRecovery.{is_second_step, local_of, mark_after, mark_from, serves, takes_over, rests_for}
use Rattle.srm_member.specs.declared.mark.RepairMark.{RepairMark}
use Rattle.srm_member.specs.declared.resting.Resting.{Resting}
use Rattle.srm_member.proofs.Changes.{Allowed, Effect, Quiet, effect}
use Rattle.srm_member.proofs.TableChanges.{Has, has_cases, without_less}

if_either : {A : Type 0} (Q : A → Type 0) (b : Bool) (x y : A) → Q x → Q y → Q (cond b x y)
if_either Q true x y h g = h
if_either Q false x y h g = g

-- ---- repair timers that are the same, or fewer

abbrev Same : MemberState → MemberState → Type 0
Same m k = k.repairs ≡ m.repairs

abbrev Fewer : MemberState → MemberState → Type 0
Fewer m k = (n : Name) → Has n k.repairs → Has n m.repairs

fewer_of : (m k : MemberState) → Same m k → Fewer m k
fewer_of m k e n h = subst (Has n) e h

lose_same : (at : ℕ) (p : PageId) (count first : ℕ) (m : MemberState) → Same m (lose_from at p count first m)
unfolding lose_from
lose_same at p zero first m = refl
lose_same at p (suc count) first m = lose_same at p count (suc first) (lose_one at (name_in p first) m)

below_same : (at : ℕ) (p : PageId) (end next : ℕ) (s : Progress) (lost : List Name) (m : MemberState)
    → Same m (lose_below at p end next s lost m)
unfolding lose_below
below_same at p end next s lost m = lose_same at p (end - s.next) s.next (with_losses_begun lost end s m)

-- ---- packets

data_same : (at : ℕ) (n : Name) (ink : ℕ) (repaired : Bool) (m : MemberState) → Same m (hear_data at n ink repaired m).state
unfolding hear_data
data_same at n ink repaired m =
    let s = meet m (page_of n) n.number in
    if_either (λ (r : Reaction). Same m r.state) (nat_lt n.number s.floor) _ _ refl
    (if_either (λ (r : Reaction). Same m r.state) (nat_le s.next n.number) _ _
    (below_same at (page_of n) n.number (n.number + 1) s [] m)
    (if_either (λ (r : Reaction). Same m r.state) (has_entry n m.missing) _ _ refl refl))

entry_same : (at : ℕ) (h : Heard) (lost : List Name) (m : MemberState) → Same m (after_entry at h lost m)
unfolding after_entry
entry_same at h lost m =
    let s = meet m (page_heard h) (h.highest + 1) in
    if_either (Same m) (nat_le s.next h.highest) (lose_below at (page_heard h) (h.highest + 1) (h.highest + 1) s lost m)
    (with_progress (page_heard h) s m) (below_same at (page_heard h) (h.highest + 1) (h.highest + 1) s lost m) refl

session_same : (at : ℕ) (hs : List Heard) (m k : MemberState) (lost : List Name) → Same m k → Same m (hear_session at hs k lost).state
unfolding hear_session
session_same at [] m k lost e = e
session_same at (h ∷ hs) m k lost e =
    session_same at hs m (after_entry at h lost k) (lost ++ lost_by_entry h k) (entry_same at h lost k ∙ e)

-- ---- repairs

-- one for this name may be new
abbrev FewerBut : Name → MemberState → MemberState → Type 0
FewerBut n m k = (x : Name) → Has x k.repairs → Has x m.repairs ⊎ (x ≡ n)

but_same : (n : Name) (m k : MemberState) → Same m k → FewerBut n m k
but_same n m k e x h = inl (subst (Has x) e h)

but_fewer : (n : Name) (m k : MemberState) → Fewer m k → FewerBut n m k
but_fewer n m k f x h = inl (f x h)

but_then : (n : Name) (m k l : MemberState) → FewerBut n m k → FewerBut n k l → FewerBut n m l
but_then n m k l f g x h = elim (g x h) [ inl y ↦ f x y | inr y ↦ inr y ]

rest_same : (at : ℕ) (n : Name) (who : ℕ) (mark : Option RepairMark) (m : MemberState) → Same m (with_rest at n who mark m)
rest_same at n who None m = refl
rest_same at n who (Some k) m = refl

seen_fewer : (at : ℕ) (n : Name) (who : ℕ) (local : Option Local) (rest : Resting) (o : Option Repairing) (m : MemberState)
    → Fewer m (with_repair_seen at n who local rest o m)
seen_fewer at n who local rest None m = λ k h. h
seen_fewer at n who local rest (Some r) m =
    if_either (Fewer m) (serves m.fixed (mark_from m.fixed who local) r.requester r.width) _ m
    (λ k h. (without_less k n m.repairs h).1) (λ k h. h)

set_but : (at : ℕ) (n : Name) (ticks who : ℕ) (width : Option ℕ) (m : MemberState) → FewerBut n m (with_timer_set at n ticks who width m)
set_but at n ticks who width m x h = elim (has_cases x n _ m.repairs h) [ inl e ↦ inr e | inr g ↦ inl g ]

second_but : (at : ℕ) (n : Name) (rest : Resting) (local : Option Local) (m : MemberState)
    → FewerBut n m (with_second_step at n rest local m)
second_but at n rest None m = but_same n m m refl
second_but at n rest (Some l) m = if_either (FewerBut n m) (begins_second_step at n rest l m) _ m
    (set_but at n (repair_length m 0) m.fixed.member (Some l.width) m) (but_same n m m refl)

after_but : (at : ℕ) (n : Name) (who : ℕ) (local : Option Local) (m : MemberState) → FewerBut n m (after_repair at n who local m)
after_but at n who local m =
    let rested = with_rest at n who (mark_from m.fixed who local) m in
    let seen = with_repair_seen at n who local (rest_of n m) (find name_cmp n m.repairs) rested in
    but_then n m seen (with_second_step at n (rest_of n m) local seen)
    (but_then n m rested seen (but_same n m rested (rest_same at n who (mark_from m.fixed who local) m))
    (but_fewer n rested seen (seen_fewer at n who local (rest_of n m) (find name_cmp n m.repairs) rested)))
    (second_but at n (rest_of n m) local seen)

repair_but : (at : ℕ) (n : Name) (ink who : ℕ) (local : Option Local) (m : MemberState)
    → FewerBut n m (hear_repair at n ink who local m).state
repair_but at n ink who local m =
    let r = hear_data at n ink true m in
    let same = but_same n m r.state (data_same at n ink true m) in
    if_either (λ (x : Reaction). FewerBut n m x.state) (is_skip r.answer.told) r
    (record r { state = after_repair at n who local r.state }) same
    (but_then n m r.state (after_repair at n who local r.state) same (after_but at n who local r.state))

-- ---- requests

missing_same : (at : ℕ) (n : Name) (lost : List Name) (m : MemberState) (o : Option Missing)
    → Same m (hear_request_by_entry at n lost m o).state
missing_same at n lost m None = refl
missing_same at n lost m (Some e) = if_either (λ (r : Reaction). Same m r.state) (nat_lt at e.ignore) _ _ refl refl

timer_but : (at : ℕ) (n : Name) (who : ℕ) (width : Option ℕ) (m : MemberState) (o : Option Repairing)
    → FewerBut n m (hear_request_by_timer at n who width m o).state
timer_but at n who width m None = λ x h. elim (has_cases x n _ m.repairs h) [ inl e ↦ inr e | inr g ↦ inl g ]
timer_but at n who width m (Some r) = if_either (FewerBut n m) (takes_over m.fixed width r) _ m
    (λ x h. elim (has_cases x n _ m.repairs h) [ inl e ↦ inr e | inr g ↦ inl g ]) (but_same n m m refl)

held_but : (at : ℕ) (n : Name) (who : ℕ) (width : Option ℕ) (m : MemberState) → FewerBut n m (hear_request_of_held at n who width m).state
held_but at n who width m =
    if_either (λ (r : Reaction). FewerBut n m r.state) (rests_for at m.fixed (rest_of n m) who width) _ _ (but_same n m m refl)
    (timer_but at n who width m (find name_cmp n m.repairs))

request_but : (at : ℕ) (n : Name) (who : ℕ) (width : Option ℕ) (m : MemberState) → FewerBut n m (hear_request at n who width m).state
unfolding hear_request
request_but at n who width m =
    let p = page_of n in
    let s = meet m p (n.number + 1) in
    let k = with_progress p s m in
    let lose = lose_below at p (n.number + 1) (n.number + 1) s [] k in
    let Q : Reaction → Type 0 = λ r. FewerBut n m r.state in
    let new = hear_request_by_entry at n (lost_below p (n.number + 1) s) lose (find name_cmp n lose.missing) in
    let old = hear_request_by_entry at n [] k (find name_cmp n k.missing) in
    if_either Q (nat_lt n.number s.floor) _ _ (but_same n m k refl)
    (if_either Q (has_entry n k.held) _ _ (held_but at n who width k)
    (if_either Q (nat_le s.next n.number) _ _
    (but_same n m new.state (missing_same at n (lost_below p (n.number + 1) s) lose (find name_cmp n lose.missing)
    ∙ below_same at p (n.number + 1) (n.number + 1) s [] k))
    (but_same n m old.state (missing_same at n [] k (find name_cmp n k.missing)))))

-- ---- a reaction

-- a request for the name, or a repair of it
abbrev pub RecoversName : Name → Body → Type 0
RecoversName n b =
    ((scope : Option ℕ) × (b ≡ Request n scope)) ⊎ ((ink : ℕ) × (local : Option Local) × (b ≡ Repair n ink local))

-- the timer is not new, or a request for the name arrived, or a repair of it
abbrev IsCaused : MemberState → Cause → Name → Type 0
IsCaused m cause n = Has n m.repairs ⊎ ((p : Packet) × (cause ≡ Arrival p) × RecoversName n p.body)

hear_caused : (p : Packet) (at : ℕ) (b : Body) (m : MemberState) → p.body ≡ b → (n : Name)
    → Has n (hear_body at p.id.sender b m).state.repairs → IsCaused m (Arrival p) n
hear_caused p at (Drawop k ink) m e n h = inl (fewer_of m (hear_data at k ink false m).state (data_same at k ink false m) n h)
hear_caused p at (Repair k ink local) m e n h = elim (repair_but at k ink p.id.sender local m n h) [
  | inl g ↦ inl g
  | inr same ↦ inr (p, refl, inr (ink, local, e ∙ ap (λ x. Repair x ink local) (sym same)))
]
hear_caused p at (Session hs) m e n h = inl (fewer_of m (hear_session at hs m []).state (session_same at hs m m [] refl) n h)
hear_caused p at (Request k scope) m e n h = elim (request_but at k p.id.sender scope m n h) [
  | inl g ↦ inl g
  | inr same ↦ inr (p, refl, inl (scope, e ∙ ap (λ x. Request x scope) (sym same)))
]

ask_same : (at : ℕ) (n : Name) (m : MemberState) (o : Option Missing) → Same m (expire_request_by_entry at n m o).state
ask_same at n m None = refl
ask_same at n m (Some e) = refl

answer_fewer : (at : ℕ) (n : Name) (m : MemberState) (o : Option Repairing) → Fewer m (expire_repair_by_entry at n m o).state
answer_fewer at n m None k h = h
answer_fewer at n m (Some r) k h =
    let seen = with_answer_seen at r m in
    let rested = with_rest at n m.fixed.member (mark_after 0 (local_of m.fixed r)) seen in
    subst (Has k) (rest_same at n m.fixed.member (mark_after 0 (local_of m.fixed r)) seen ∙ seen_same)
    (without_less k n rested.repairs h).1
  where
    seen_same : Same m (with_answer_seen at r m)
    seen_same = if_either (Same m) (is_second_step m.fixed r) m _ refl refl

draw_same : (page ink : ℕ) (m : MemberState) → Same m (draw_operation page ink m).state
unfolding draw_operation
draw_same page ink m =
    let s = own_progress m (record { source = m.fixed.member; page = page }) in
    if_either (λ (r : Reaction). Same m r.state) (is_sender m.fixed.role && nat_lt s.next most_drawn) _ _ refl refl

active_caused : (m : MemberState) (at : ℕ) (cause : Cause) (n : Name) → Has n (react_active m at cause).state.repairs → IsCaused m cause n
unfolding expire_request expire_repair
active_caused m at Join n h = inl h
active_caused m at (Arrival p) n h = hear_caused p at p.body m refl n h
active_caused m at (Ask k) n h =
    let o = find name_cmp k m.missing in inl (fewer_of m (expire_request_by_entry at k m o).state (ask_same at k m o) n h)
active_caused m at (Answer k) n h = inl (answer_fewer at k m (find name_cmp k m.repairs) n h)
active_caused m at (Draw page ink) n h = inl (fewer_of m (draw_operation page ink m).state (draw_same page ink m) n h)
active_caused m at Report n h = inl h

listen_same : (n : Name) (ink : ℕ) (m : MemberState) → Same m (listen_data n ink m).state
listen_same n ink m = if_either (λ (r : Reaction). Same m r.state) (has_entry n m.held) _ _ refl refl

listens_same : (b : Body) (m : MemberState) → Same m (listen b m).state
listens_same (Drawop n ink) m = listen_same n ink m
listens_same (Repair n ink local) m = listen_same n ink m
listens_same (Request n scope) m = refl
listens_same (Session hs) m = refl

listener_same : (m : MemberState) (cause : Cause) → Same m (react_listener m cause).state
listener_same m Join = refl
listener_same m (Arrival p) = listens_same p.body m
listener_same m (Ask n) = refl
listener_same m (Answer n) = refl
listener_same m (Draw page ink) = refl
listener_same m Report = refl

-- what repair timers there are after a reaction
pub timers_caused : (m : MemberState) (at : ℕ) (cause : Cause) (n : Name) → Has n (react m at cause).state.repairs → IsCaused m cause n
unfolding react
timers_caused m at cause n h = elim (is_listener m.fixed.role) as
    (λ b. Has n (cond b (react_listener m cause) (telling_intervals cause (intervals_of m) (react_active m at cause))).state.repairs
    → IsCaused m cause n) [
      | true ↦ λ g. inl (fewer_of m (react_listener m cause).state (listener_same m cause) n g)
      | false ↦ λ g. active_caused m at cause n g
    ] h

-- ---- what is sent

-- who sends a repair has a repair timer of its name
pub repairs_for : (m : MemberState) (at : ℕ) (cause : Cause) (n : Name) (ink : ℕ) (local : Option Local)
    → (react m at cause).answer.body ≡ Some (Repair n ink local) → Has n m.repairs
repairs_for m at cause n ink local h = by cause (effect m at cause)
  where
    quiet : Quiet m (react m at cause) → Has n m.repairs
    quiet q = (subst (Allowed m) h q.body).0

    by : (c : Cause) → Effect m c (react m at cause) → Has n m.repairs
    by c (inl q) = quiet q
    by (Arrival p) (inr (inl b)) = let x : None ≡ Some (Repair n ink local) = sym b.body ∙ h in cc
    by (Draw page i) (inr (inr d)) = let x : Some (Drawop d.name d.ink) ≡ Some (Repair n ink local) = sym d.body ∙ h in cc
    by Join (inr x) = absurd (elim x [ inl y ↦ y | inr y ↦ y ])
    by (Arrival p) (inr (inr x)) = absurd x
    by (Ask k) (inr x) = absurd (elim x [ inl y ↦ y | inr y ↦ y ])
    by (Answer k) (inr x) = absurd (elim x [ inl y ↦ y | inr y ↦ y ])
    by (Draw page i) (inr (inl x)) = absurd x
    by Report (inr x) = absurd (elim x [ inl y ↦ y | inr y ↦ y ])

ask_entry : (at : ℕ) (n : Name) (m : MemberState) (o : Option Missing) → find name_cmp n m.missing ≡ o
    → (expire_request_by_entry at n m o).answer.told ≡ Sent → Has n m.missing
ask_entry at n m None e h = let x : Skip ≡ Sent = h in cc
ask_entry at n m (Some x) e h = ap is_some e

answer_entry : (at : ℕ) (n : Name) (m : MemberState) (o : Option Repairing) → find name_cmp n m.repairs ≡ o
    → (expire_repair_by_entry at n m o).answer.told ≡ Sent → Has n m.repairs
answer_entry at n m None e h = let x : Skip ≡ Sent = h in cc
answer_entry at n m (Some x) e h = ap is_some e

-- who asks for a name lacks it
pub asks_for : (m : MemberState) (at : ℕ) (n : Name) → (react m at (Ask n)).answer.told ≡ Sent → Has n m.missing
unfolding react expire_request
asks_for m at n h = elim (is_listener m.fixed.role) as
    (λ b. (cond b (react_listener m (Ask n)) (telling_intervals (Ask n) (intervals_of m) (react_active m at (Ask n)))).answer.told ≡ Sent
    → Has n m.missing) [
      | true ↦ λ g. let x : Skip ≡ Sent = g in cc
      | false ↦ λ g. ask_entry at n m (find name_cmp n m.missing) refl g
    ] h

-- who answers has a repair timer
pub answers_for : (m : MemberState) (at : ℕ) (n : Name) → (react m at (Answer n)).answer.told ≡ Sent → Has n m.repairs
unfolding react expire_repair
answers_for m at n h = elim (is_listener m.fixed.role) as
    (λ b. (cond b (react_listener m (Answer n))
    (telling_intervals (Answer n) (intervals_of m) (react_active m at (Answer n)))).answer.told ≡ Sent → Has n m.repairs) [
      | true ↦ λ g. let x : Skip ≡ Sent = g in cc
      | false ↦ λ g. answer_entry at n m (find name_cmp n m.repairs) refl g
    ] h
