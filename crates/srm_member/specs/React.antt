-- How a member answers a cause: the table for senders, receivers and late joiners, and the table for listeners.
use Rattle.std.specs.Prelude.{ℕ, zero, suc, ◌+◌, ◌-◌, ◌*◌, ◌/◌, min, Bool, true, false, not, ◌&&◌, List, [], ◌∷◌, ◌++◌}
use Rattle.std.specs.Prelude.{map, filter, length, Option, Some, None, is_some, unwrap_or, nat_lt, nat_le}
use Rattle.std.specs.Prelude.{slice_index, ◌==◌, if◌then◌else◌}
use Rattle.std.specs.Option.{option_map_or}
use Rattle.std.specs.Ordering.{eq_by_cmp}
use Rattle.std.specs.FinMap.Entries.{put, find}
use Rattle.rand_pcg.specs.Pcg.{pcg32}
use Rattle.srm_net.specs.declared.packet.Name.{Name}
use Rattle.srm_net.specs.declared.packet.PageId.{PageId}
use Rattle.srm_net.specs.declared.packet.Heard.{Heard}
use Rattle.srm_net.specs.declared.packet.Local.{Local}
use Rattle.srm_net.specs.declared.packet.Body.{Body}
use Rattle.srm_net.specs.declared.packet.Body.TheVariants.{Drawop, Request, Repair, Session}
use Rattle.srm_net.specs.Roles.{is_sender, is_late, is_listener}
use Rattle.srm_net.specs.Paths.{is_in}
use Rattle.srm_net.specs.Names.{page_of, name_in, name_cmp, page_cmp}
use Rattle.srm_member.specs.declared.cause.Cause.{Cause}
use Rattle.srm_member.specs.declared.cause.Cause.TheVariants.{Join, Arrival, Ask, Answer, Draw, Report}
use Rattle.srm_member.specs.declared.told.Told.{Told}
use Rattle.srm_member.specs.declared.told.Told.TheVariants.{Entered, Fresh, Fixed, Again, Skip, Rest, Busy, Plan, Hold}
use Rattle.srm_member.specs.declared.told.Told.TheVariants.{Back, Sent, Heard as Informed}
use Rattle.srm_member.specs.declared.react.React.{React}
use Rattle.srm_member.specs.Timers.{timer_length}
use Rattle.srm_member.specs.Backoff.{span_by}
use Rattle.srm_member.specs.declared.intervals.Intervals.{Intervals}
use Rattle.srm_member.specs.Intervals.{Interval, has_constants_of, begin_period, take_in_delay, send_first}
use Rattle.srm_member.specs.Intervals.{hear_duplicate}
use Rattle.srm_member.specs.LocalRecovery.{scope_of_request, local_of, mark_after, mark_from, serves, rests_for}
use Rattle.srm_member.specs.LocalRecovery.{is_duplicate, is_second_step, takes_over, are_two}
use Rattle.srm_member.specs.Record.{Progress, Missing, Repairing, RepairMark, MemberState}
use Rattle.srm_member.specs.declared.resting.Resting.{Resting}
use Rattle.srm_net.specs.Limits.{most_drawn}

-- what a member knows after an event, and what it answers
pub record Reaction : Type 0 where
  pub state : MemberState
  pub answer : React

-- an answer that sends nothing
abbrev pub quietly : MemberState → Told → List Name → Reaction
quietly m told lost = record { state = m; answer = record { told = told; lost = lost; body = None; adapted = None } }

-- an answer that sends a packet
abbrev pub send_body : MemberState → Body → Reaction
send_body m body = record { state = m; answer = record { told = Sent; lost = []; body = Some body; adapted = None } }

-- the entries of all other names
abbrev pub without : {V : Type 0} → Name → List (Name × V) → List (Name × V)
without n es = filter (λ e. not (eq_by_cmp name_cmp n e.0)) es

-- whether a name has an entry
abbrev pub has_entry : {V : Type 0} → Name → List (Name × V) → Bool
has_entry n es = is_some (find name_cmp n es)

-- ---- timers: each takes one word

-- the distance to this member that timers and rests go by
abbrev pub distance_to : MemberState → ℕ → ℕ
distance_to m who = slice_index m.fixed.dist who

-- the generator has given one word more
abbrev pub with_next_word : MemberState → MemberState
with_next_word m = record m { words = (pcg32 m.words).1 }

-- the length that the next word picks of a span
abbrev pub length_in : MemberState → ℕ × ℕ → ℕ
length_in m s = timer_length (pcg32 m.words).0 s

-- the length of a request timer after i backoffs
abbrev pub request_length : MemberState → ℕ → Name → ℕ
request_length m i n =
    length_in m (span_by m.fixed.backoff i m.request_interval.start m.request_interval.width (distance_to m n.source))

-- the length of a repair timer over a distance
abbrev pub repair_length : MemberState → ℕ → ℕ
repair_length m d = length_in m (span_by m.fixed.backoff 0 m.repair_interval.start m.repair_interval.width d)

-- the request interval, once it took in the delay since the loss of a name was detected
abbrev pub after_request_delay : ℕ → Name → Missing → MemberState → Interval
after_request_delay at n e m = take_in_delay (at - e.detected) (distance_to m n.source) m.request_interval

-- the first time that a member backs off for a name, the delay since its loss was detected is taken in
abbrev pub with_request_delay : ℕ → Name → Missing → MemberState → MemberState
with_request_delay at n e m = record m {
  request_interval = if e.backoffs == 0 then after_request_delay at n e m else m.request_interval;
}

-- back off: the count rises, up to 10, and the timer is set anew; in the first half of it the member backs off no
-- further
abbrev pub back_off : ℕ → Name → Missing → MemberState → MemberState
back_off at n e m0 =
    let m = with_request_delay at n e m0 in
    let i = min (e.backoffs + 1) 10 in
    let len = request_length m i n in
    record (with_next_word m) {
      missing = put name_cmp n
          (record { detected = e.detected; expiry = at + len; backoffs = i; ignore = at + len / 2 }) m.missing;
    }

-- ---- progress and losses

-- where a page begins for this member. A late member does not ask for what came before on pages that it does not want
abbrev pub begins_at : MemberState → PageId → ℕ → ℕ
begins_at m p begin = if is_late m.fixed.role && not (is_in m.fixed.pages p.page) then begin else 0

-- meet a page: its entry, which is made where there is none
abbrev pub meet : MemberState → PageId → ℕ → Progress
meet m p begin = unwrap_or (find page_cmp p m.progress)
    (record { floor = begins_at m p begin; next = begins_at m p begin })

-- after the page's entry is set
abbrev pub with_progress : PageId → Progress → MemberState → MemberState
with_progress p s m = record m { progress = put page_cmp p s m.progress }

-- a loss: the name is missing, with a new request timer. A request for it backs off at once
abbrev pub lose_one : ℕ → Name → MemberState → MemberState
lose_one at n m =
    record (with_next_word m) {
      missing = put name_cmp n
          (record { detected = at; expiry = at + request_length m 0 n; backoffs = 0; ignore = at }) m.missing;
    }

-- after the loss of `count` names of a page from number k on
unfoldable pub lose_from : ℕ → PageId → ℕ → ℕ → MemberState → MemberState
lose_from at p zero k m = m
lose_from at p (suc count) k m = lose_from at p count (suc k) (lose_one at (name_in p k) m)

-- `count` names of a page, from number k on
abbrev pub names_from : PageId → ℕ → ℕ → List Name
names_from p zero k = []
names_from p (suc count) k = name_in p k ∷ names_from p count (suc k)

-- before an event loses the numbers below n that were not heard of: a period of request timers begins, if it loses any,
-- and lost none before
abbrev pub with_losses_begun : List Name → ℕ → Progress → MemberState → MemberState
with_losses_begun lost n s m = record m {
  request_interval =
      if (length lost == 0) && nat_lt s.next n then begin_period m.fixed.c1 m.fixed.c2 m.request_interval
      else m.request_interval;
}

-- lose every number below n that was not heard of, in an event that lost these names before; from there on the next
-- number is this
unfoldable pub lose_below : ℕ → PageId → ℕ → ℕ → Progress → List Name → MemberState → MemberState
lose_below at p n next s lost m = with_progress p (record { floor = s.floor; next = next })
    (lose_from at p (n - s.next) s.next (with_losses_begun lost n s m))

-- the names that are lost by that
abbrev pub lost_below : PageId → ℕ → Progress → List Name
lost_below p n s = names_from p (n - s.next) s.next

-- ---- the table for senders, receivers and late joiners

-- hold a name
abbrev pub with_held : Name → ℕ → MemberState → MemberState
with_held n ink m = record m { held = put name_cmp n ink m.held }

-- hold a name that was missing
abbrev pub with_mended : Name → ℕ → MemberState → MemberState
with_mended n ink m = record m { held = put name_cmp n ink m.held; missing = without n m.missing }

-- the request interval where a name is mended: before the member backed off for it, a repair ends the delay
abbrev pub interval_at_mending : ℕ → Name → Bool → MemberState → Option Missing → Interval
interval_at_mending at n repaired m None = m.request_interval
interval_at_mending at n repaired m (Some e) =
    if repaired && (e.backoffs == 0) then after_request_delay at n e m else m.request_interval

-- before a name is mended, by a repair or by data
abbrev pub with_mending_seen : ℕ → Name → Bool → MemberState → MemberState
with_mending_seen at n repaired m = record m {
  request_interval = interval_at_mending at n repaired m (find name_cmp n m.missing);
}

-- data, or a repair, of this name
unfoldable pub hear_data : ℕ → Name → ℕ → Bool → MemberState → Reaction
hear_data at n ink repaired m =
    let s = meet m (page_of n) n.number in
    if nat_lt n.number s.floor then quietly (with_progress (page_of n) s m) Skip []
    else if nat_le s.next n.number then
    quietly (with_held n ink (lose_below at (page_of n) n.number (n.number + 1) s [] m)) Fresh
    (lost_below (page_of n) n.number s)
    else if has_entry n m.missing then
    quietly (with_mended n ink (with_progress (page_of n) s (with_mending_seen at n repaired m))) Fixed []
    else quietly (with_progress (page_of n) s m) Again []

-- the base of a name's rest: the distance to its source; at the source itself the distance to the requester of the
-- pending repair timer, or without one to the member that sent the repair
abbrev pub base : MemberState → Name → ℕ → ℕ
base m n who = distance_to m
    (if n.source == m.fixed.member then option_map_or (λ r. r.requester) (find name_cmp n m.repairs) who
    else n.source)

-- the mark of a name's rest, if the repair that it comes from has one
abbrev pub with_mark : Name → Option RepairMark → MemberState → MemberState
with_mark n None m = record m { marks = without n m.marks }
with_mark n (Some k) m = record m { marks = put name_cmp n k m.marks }

-- after a repair by that member, with this mark
abbrev pub with_rest : ℕ → Name → ℕ → Option RepairMark → MemberState → MemberState
with_rest at n who mark m = with_mark n mark (record m { rests = put name_cmp n (at + 3 * base m n who) m.rests })

-- a name's rest
abbrev pub rest_of : Name → MemberState → Resting
rest_of n m = record { until = unwrap_or (find name_cmp n m.rests) 0; mark = find name_cmp n m.marks }

-- the event did not concern the member
abbrev pub is_skip : Told → Bool
is_skip Skip = true
is_skip _ = false

-- the repair interval, once it took in the delay since a repair timer was set
abbrev pub after_repair_delay : ℕ → Repairing → MemberState → Interval
after_repair_delay at r m = take_in_delay (at - r.set) (distance_to m r.requester) m.repair_interval

-- a repair of this mark ends a pending repair timer, if it serves the request. The repair interval takes in the delay,
-- but for a second step, which tells nothing of how long others take
abbrev pub with_timer_ended : ℕ → Name → Option RepairMark → Repairing → MemberState → MemberState
with_timer_ended at n mark r m =
    if serves m.fixed mark r.requester r.width
    then record m {
      repairs = without n m.repairs;
      repair_interval = if is_second_step m.fixed r then m.repair_interval else after_repair_delay at r m;
    }
    else m

-- a repair by that member is a duplicate after such a rest, or is not
abbrev pub with_duplicate_repair : ℕ → Resting → ℕ → Option Local → MemberState → MemberState
with_duplicate_repair at rest who local m = record m {
  repair_interval =
      if is_duplicate at m.fixed rest who local then hear_duplicate m.repair_interval else m.repair_interval;
}

-- a repair by that member ends a pending repair timer or, where there is none, may be a duplicate
abbrev pub with_repair_seen :
    ℕ → Name → ℕ → Option Local → Resting → Option Repairing → MemberState → MemberState
with_repair_seen at n who local rest (Some r) m = with_timer_ended at n (mark_from m.fixed who local) r m
with_repair_seen at n who local rest None m = with_duplicate_repair at rest who local m

-- a repair timer of so many ticks is set, for a request of this width by that member
abbrev pub with_timer_set : ℕ → Name → ℕ → ℕ → Option ℕ → MemberState → MemberState
with_timer_set at n ticks who width m = record (with_next_word m) {
  repairs = put name_cmp n (record { set = at; expiry = at + ticks; requester = who; width = width }) m.repairs;
}

-- whether a repair with this for it begins a second step, after such a rest: the member asked, it holds the name, and
-- neither plans a repair of it nor rests for such a request of its own
abbrev pub begins_second_step : ℕ → Name → Resting → Local → MemberState → Bool
begins_second_step at n rest l m =
    (are_two m.fixed.steps && (l.requester == m.fixed.member))
    && ((has_entry n m.held && not (has_entry n m.repairs))
    && not (rests_for at m.fixed rest m.fixed.member (Some l.width)))

-- the second step of a repair, sent on by the member that asked. Its timer is as long as one over no distance: a tick
abbrev pub with_second_step : ℕ → Name → Resting → Option Local → MemberState → MemberState
with_second_step at n rest None m = m
with_second_step at n rest (Some l) m =
    if begins_second_step at n rest l m
    then with_timer_set at n (repair_length m 0) m.fixed.member (Some l.width) m
    else m

-- after a repair of this name by that member was heard: the member rests; a pending repair timer that the repair serves
-- ends, or the repair is a duplicate; the member sends it on, where it asked for it
abbrev pub after_repair : ℕ → Name → ℕ → Option Local → MemberState → MemberState
after_repair at n who local m =
    let rest = rest_of n m in
    with_second_step at n rest local
    (with_repair_seen at n who local rest (find name_cmp n m.repairs)
    (with_rest at n who (mark_from m.fixed who local) m))

-- a repair of this name
abbrev pub hear_repair : ℕ → Name → ℕ → ℕ → Option Local → MemberState → Reaction
hear_repair at n ink who local m =
    let r = hear_data at n ink true m in
    if is_skip r.answer.told then r else record r { state = after_repair at n who local r.state }

-- a period of repair timers begins
abbrev pub with_repairs_begun : MemberState → MemberState
with_repairs_begun m = record m { repair_interval = begin_period m.fixed.d1 m.fixed.d2 m.repair_interval }

-- plan a repair, for a request of this width by that member
abbrev pub with_repair_timer : ℕ → Name → ℕ → Option ℕ → MemberState → MemberState
with_repair_timer at n who width m0 =
    let m = with_repairs_begun m0 in with_timer_set at n (repair_length m (distance_to m who)) who width m

-- a request of this width by that member takes a pending repair timer over, if it is wider
abbrev pub with_timer_taken_over : Name → ℕ → Option ℕ → Repairing → MemberState → MemberState
with_timer_taken_over n who width r m =
    if takes_over m.fixed width r
    then record m { repairs = put name_cmp n (record r { requester = who; width = width }) m.repairs }
    else m

-- a request for a name that is missing: one that comes before the ignore time is a duplicate
abbrev pub hear_request_by_entry : ℕ → Name → List Name → MemberState → Option Missing → Reaction
hear_request_by_entry at n lost m None = quietly m Hold lost
hear_request_by_entry at n lost m (Some e) =
    if nat_lt at e.ignore
    then quietly (record m { request_interval = hear_duplicate m.request_interval }) Hold lost
    else quietly (back_off at n e m) Back lost

-- a request for a name that is not held
abbrev pub hear_request_of_missing : ℕ → Name → List Name → MemberState → Reaction
hear_request_of_missing at n lost m = hear_request_by_entry at n lost m (find name_cmp n m.missing)

-- a request for a name that is held, and for which the member does not rest
abbrev pub hear_request_by_timer : ℕ → Name → ℕ → Option ℕ → MemberState → Option Repairing → Reaction
hear_request_by_timer at n who width m None = quietly (with_repair_timer at n who width m) Plan []
hear_request_by_timer at n who width m (Some r) = quietly (with_timer_taken_over n who width r m) Busy []

-- a request for a name that is held
abbrev pub hear_request_of_held : ℕ → Name → ℕ → Option ℕ → MemberState → Reaction
hear_request_of_held at n who width m =
    if rests_for at m.fixed (rest_of n m) who width then quietly m Rest []
    else hear_request_by_timer at n who width m (find name_cmp n m.repairs)

-- a request for this name, of this width, by that member
unfoldable pub hear_request : ℕ → Name → ℕ → Option ℕ → MemberState → Reaction
hear_request at n who width m0 =
    let s = meet m0 (page_of n) (n.number + 1) in
    let m = with_progress (page_of n) s m0 in
    if nat_lt n.number s.floor then quietly m Skip []
    else if has_entry n m.held then hear_request_of_held at n who width m
    else if nat_le s.next n.number then hear_request_of_missing at n (lost_below (page_of n) (n.number + 1) s)
    (lose_below at (page_of n) (n.number + 1) (n.number + 1) s [] m)
    else hear_request_of_missing at n [] m

-- the page of an entry of a session message
abbrev pub page_heard : Heard → PageId
page_heard h = record { source = h.source; page = h.page }

-- after an entry of a session message that lost these names before: every number up to its highest was heard of
unfoldable pub after_entry : ℕ → Heard → List Name → MemberState → MemberState
after_entry at h lost m =
    let s = meet m (page_heard h) (h.highest + 1) in
    if nat_le s.next h.highest then lose_below at (page_heard h) (h.highest + 1) (h.highest + 1) s lost m
    else with_progress (page_heard h) s m

-- the names that are lost by it: none where the next number is above the highest
abbrev pub lost_by_entry : Heard → MemberState → List Name
lost_by_entry h m = lost_below (page_heard h) (h.highest + 1) (meet m (page_heard h) (h.highest + 1))

-- a session message: each entry in turn
unfoldable pub hear_session : ℕ → List Heard → MemberState → List Name → Reaction
hear_session at [] m lost = quietly m Informed lost
hear_session at (h ∷ hs) m lost = hear_session at hs (after_entry at h lost m) (lost ++ lost_by_entry h m)

-- a packet from this member
abbrev pub hear_body : ℕ → ℕ → Body → MemberState → Reaction
hear_body at who (Drawop n ink) m = hear_data at n ink false m
hear_body at who (Repair n ink local) m = hear_repair at n ink who local m
hear_body at who (Request n scope) m = hear_request at n who scope m
hear_body at who (Session hs) m = hear_session at hs m []

-- before a member asks for a name: it asks first, if it had not backed off for it
abbrev pub with_request_first : Missing → MemberState → MemberState
with_request_first e m = record m {
  request_interval = if e.backoffs == 0 then send_first m.fixed.c1 m.request_interval else m.request_interval;
}

-- the request timer of a name expires
abbrev pub expire_request_by_entry : ℕ → Name → MemberState → Option Missing → Reaction
expire_request_by_entry at n m None = quietly m Skip []
expire_request_by_entry at n m (Some e) =
    send_body (back_off at n e (with_request_first e m)) (Request n (scope_of_request m.fixed e.backoffs))

-- what a member answers to it: it asks, and backs off
unfoldable pub expire_request : ℕ → Name → MemberState → Reaction
expire_request at n m = expire_request_by_entry at n m (find name_cmp n m.missing)

-- before a member answers: it answers first, and the delay since it set the timer is taken in
abbrev pub with_repair_first : ℕ → Repairing → MemberState → MemberState
with_repair_first at r m0 =
    let m = record m0 { repair_interval = send_first m0.fixed.d1 m0.repair_interval } in record m {
      repair_interval = after_repair_delay at r m;
    }

-- before a member sends a repair: a second step says nothing of who answers first
abbrev pub with_answer_seen : ℕ → Repairing → MemberState → MemberState
with_answer_seen at r m = if is_second_step m.fixed r then m else with_repair_first at r m

-- after a member sent the repair of this timer, with this mark: it rests, and the timer ended
abbrev pub with_own_timer_ended : ℕ → Name → Repairing → Option RepairMark → MemberState → MemberState
with_own_timer_ended at n r mark m =
    let rested = with_rest at n m.fixed.member mark (with_answer_seen at r m) in
    record rested { repairs = without n rested.repairs }

-- the repair timer of a name expires
abbrev pub expire_repair_by_entry : ℕ → Name → MemberState → Option Repairing → Reaction
expire_repair_by_entry at n m None = quietly m Skip []
expire_repair_by_entry at n m (Some r) =
    let local = local_of m.fixed r in
    send_body (with_own_timer_ended at n r (mark_after 0 local) m)
    (Repair n (unwrap_or (find name_cmp n m.held) 0) local)

-- what a member answers to it: it sends a repair, and rests
unfoldable pub expire_repair : ℕ → Name → MemberState → Reaction
expire_repair at n m = expire_repair_by_entry at n m (find name_cmp n m.repairs)

-- the entry of a page on which the member draws
abbrev pub own_progress : MemberState → PageId → Progress
own_progress m p = unwrap_or (find page_cmp p m.progress) (record { floor = 0; next = 0 })

-- a drawing operation of this member, up to 4,096 on a page of its own: it is held, and numbers go on
unfoldable pub draw_operation : ℕ → ℕ → MemberState → Reaction
draw_operation page ink m =
    let p : PageId = record { source = m.fixed.member; page = page } in
    let s = own_progress m p in
    let n = name_in p s.next in
    if is_sender m.fixed.role && nat_lt s.next most_drawn
    then send_body (with_held n ink (with_progress p (record { floor = s.floor; next = s.next + 1 }) m)) (Drawop n ink)
    else quietly m Skip []

-- a session message: of every page that has an entry, the highest number heard of
abbrev pub session_of : MemberState → Body
session_of m = Session (map (λ e. record { source = e.0.source; page = e.0.page; highest = e.1.next - 1 }) m.progress)

-- the table, by causes
abbrev pub react_active : MemberState → ℕ → Cause → Reaction
react_active m at Join = quietly m Entered []
react_active m at (Arrival k) = hear_body at k.id.sender k.body m
react_active m at (Ask n) = expire_request at n m
react_active m at (Answer n) = expire_repair at n m
react_active m at (Draw page ink) = draw_operation page ink m
react_active m at Report = send_body m (session_of m)

-- ---- the table for listeners

-- data or a repair of this name
abbrev pub listen_data : Name → ℕ → MemberState → Reaction
listen_data n ink m = if has_entry n m.held then quietly m Again [] else quietly (with_held n ink m) Fresh []

-- a packet
abbrev pub listen : Body → MemberState → Reaction
listen (Drawop n ink) m = listen_data n ink m
listen (Repair n ink local) m = listen_data n ink m
listen (Request n scope) m = quietly m Skip []
listen (Session hs) m = quietly m Skip []

-- the table, by causes
abbrev pub react_listener : MemberState → Cause → Reaction
react_listener m Join = quietly m Entered []
react_listener m (Arrival k) = listen k.body m
react_listener m _ = quietly m Skip []

-- ---- both

-- both intervals of a member
abbrev pub intervals_of : MemberState → Intervals
intervals_of m = record { request = m.request_interval; repair = m.repair_interval }

-- what is told of the intervals after an event, before which they were others: them, where one of the four constants is
-- another
abbrev pub adapted_since : Intervals → Intervals → Option Intervals
adapted_since before after =
    if has_constants_of before.request after.request && has_constants_of before.repair after.repair then None
    else Some after

-- what an event tells of the intervals of a member that is no listener: at its join it tells them as they are
abbrev pub adapted_at : Cause → Intervals → Intervals → Option Intervals
adapted_at Join before after = Some after
adapted_at (Arrival k) before after = adapted_since before after
adapted_at (Ask n) before after = adapted_since before after
adapted_at (Answer n) before after = adapted_since before after
adapted_at (Draw page ink) before after = adapted_since before after
adapted_at Report before after = adapted_since before after

-- with what it tells of intervals, which were these before the event
abbrev pub telling_intervals : Cause → Intervals → Reaction → Reaction
telling_intervals cause before r = record r {
  answer = record r.answer { adapted = adapted_at cause before (intervals_of r.state) };
}

-- what a member answers to a cause at a time, and what it knows then
unfoldable pub react : MemberState → ℕ → Cause → Reaction
react m at cause =
    if is_listener m.fixed.role then react_listener m cause
    else telling_intervals cause (intervals_of m) (react_active m at cause)
