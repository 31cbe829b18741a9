-- Which events leave the intervals of a member's timers as they are.
use Rattle.std.proofs.Common.{arith, ◌+◌}
use Rattle.std.proofs.Common.{◌≡◌, ℕ, zero, suc, ◌-◌, false, List, [], ◌∷◌, refl, ◌∙◌}
use Rattle.std.proofs.Common.{Option, Some, None}
use Rattle.std.specs.FinMap.Entries.{find}
use Rattle.srm_net.specs.declared.packet.Name.{Name}
use Rattle.srm_net.specs.declared.packet.PageId.{PageId}
use Rattle.srm_net.specs.declared.packet.Heard.{Heard}
use Rattle.srm_net.specs.declared.packet.Body.{Body}
use Rattle.srm_net.specs.Names.{name_in, name_cmp}
use Rattle.srm_member.specs.declared.cause.Cause.{Cause}
use Rattle.srm_member.specs.declared.cause.Cause.TheVariants.{Join, Arrival, Ask, Answer, Draw, Report}
use Rattle.srm_member.specs.Intervals.{Interval}
use Rattle.srm_member.specs.Record.{MemberState, Missing, Repairing, Progress}
use Rattle.srm_member.specs.React.{with_losses_begun, lose_one, lose_from, lose_below, with_held, with_progress}
use Rattle.srm_member.specs.React.{hear_data, hear_body, after_entry, hear_session, expire_request_by_entry, expire_request}
use Rattle.srm_member.specs.React.{expire_repair_by_entry, expire_repair, own_progress, draw_operation}
use Rattle.srm_member.specs.React.{react_active, react, with_rest, with_answer_seen}
use Rattle.srm_member.specs.LocalRecovery.{local_of, mark_after}
use Rattle.srm_member.specs.declared.mark.RepairMark.{RepairMark}
use Rattle.srm_member.specs.AdaptingLaws.{may_adapt_requests, is_of_recovery, may_adapt_repairs, OtherEventsLeaveIntervals}

-- ---- what each of two ways leaves, either leaves

-- ---- losses, data and session messages leave the interval of repair timers

losing : (at : ℕ) (p : PageId) (count first : ℕ) (m : MemberState) → (lose_from at p count first m).repair_interval ≡ m.repair_interval
unfolding lose_from
losing at p zero first m = refl
losing at p (suc count) first m = losing at p count (suc first) (lose_one at (name_in p first) m)

losing_below : (at : ℕ) (p : PageId) (n next : ℕ) (s : Progress) (lost : List Name) (m : MemberState)
    → (lose_below at p n next s lost m).repair_interval ≡ m.repair_interval
unfolding lose_below
losing_below at p n next s lost m = losing at p (n - s.next) s.next (with_losses_begun lost n s m)

hearing_data : (at : ℕ) (n : Name) (ink : ℕ) (m : MemberState) → (hear_data at n ink false m).state.repair_interval ≡ m.repair_interval
unfolding hear_data
hearing_data at n ink m = grind (arith, losing_below)

hearing_entry : (at : ℕ) (h : Heard) (lost : List Name) (m : MemberState) → (after_entry at h lost m).repair_interval ≡ m.repair_interval
unfolding after_entry
hearing_entry at h lost m = grind (arith, losing_below)

hearing_session : (at : ℕ) (hs : List Heard) (m : MemberState) (lost : List Name)
    → (hear_session at hs m lost).state.repair_interval ≡ m.repair_interval
unfolding hear_session
hearing_session at [] m lost = refl
hearing_session at (h ∷ hs) m lost = hearing_session at hs (after_entry at h lost m) _ ∙ hearing_entry at h lost m

hearing : (at who : ℕ) (b : Body) (m : MemberState) → is_of_recovery b ≡ false
    → (hear_body at who b m).state.repair_interval ≡ m.repair_interval
hearing at who b m h = grind (arith, hearing_data, hearing_session)

-- ---- a timer leaves the interval of the other timers, and a draw leaves both

asking : (at : ℕ) (n : Name) (m : MemberState) (o : Option Missing)
    → (expire_request_by_entry at n m o).state.repair_interval ≡ m.repair_interval
asking at n m None = refl
asking at n m (Some e) = refl

resting : (at : ℕ) (n : Name) (who : ℕ) (mark : Option RepairMark) (m : MemberState)
    → (with_rest at n who mark m).request_interval ≡ m.request_interval
resting at n who None m = refl
resting at n who (Some k) m = refl

seeing : (at : ℕ) (r : Repairing) (m : MemberState) → (with_answer_seen at r m).request_interval ≡ m.request_interval
seeing at r m = grind arith

answering : (at : ℕ) (n : Name) (m : MemberState) (o : Option Repairing)
    → (expire_repair_by_entry at n m o).state.request_interval ≡ m.request_interval
answering at n m None = refl
answering at n m (Some r) = resting at n m.fixed.member (mark_after 0 (local_of m.fixed r)) (with_answer_seen at r m) ∙ seeing at r m

drawing : (I : MemberState → Interval) (page ink : ℕ) (m : MemberState) (i : Interval)
    → (let p : PageId = record { source = m.fixed.member; page = page } in
    let s = own_progress m p in
    I (with_held (name_in p s.next) ink (with_progress p (record { floor = s.floor; next = s.next + 1 }) m)) ≡ i)
    → I m ≡ i → I (draw_operation page ink m).state ≡ i
unfolding draw_operation
drawing I page ink m i h g = grind arith

-- ---- events

requests_stay : (m : MemberState) (at : ℕ) (cause : Cause) → may_adapt_requests cause ≡ false
    → (react_active m at cause).state.request_interval ≡ m.request_interval
unfolding expire_repair
requests_stay m at Join h = refl
requests_stay m at (Arrival k) h = cc
requests_stay m at (Ask n) h = cc
requests_stay m at (Answer n) h = answering at n m (find name_cmp n m.repairs)
requests_stay m at (Draw page ink) h = drawing (λ k. k.request_interval) page ink m m.request_interval refl refl
requests_stay m at Report h = refl

repairs_stay : (m : MemberState) (at : ℕ) (cause : Cause) → may_adapt_repairs cause ≡ false
    → (react_active m at cause).state.repair_interval ≡ m.repair_interval
unfolding expire_request
repairs_stay m at Join h = refl
repairs_stay m at (Arrival k) h = hearing at k.id.sender k.body m h
repairs_stay m at (Ask n) h = asking at n m (find name_cmp n m.missing)
repairs_stay m at (Answer n) h = cc
repairs_stay m at (Draw page ink) h = drawing (λ k. k.repair_interval) page ink m m.repair_interval refl refl
repairs_stay m at Report h = refl

pub other_events_leave_intervals : OtherEventsLeaveIntervals
unfolding react
other_events_leave_intervals m at cause = grind (arith, requests_stay, repairs_stay)
