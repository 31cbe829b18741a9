-- Without room members whose records differ in intervals alone answer alike.
use Rattle.std.proofs.Common.{◌≡◌, ℕ, zero, suc, ◌+◌, ◌-◌, ◌/◌, min, Bool, true, false, cond, List, [], ◌∷◌, ◌++◌, refl}
use Rattle.std.proofs.Common.{Option, Some, None, nat_lt, nat_le, ap, sym, subst, ◌∙◌, arith, ◌≢◌}
use Rattle.std.specs.FinMap.Entries.{put, find}
use Rattle.srm_net.specs.declared.packet.Name.{Name}
use Rattle.srm_net.specs.declared.packet.PageId.{PageId}
use Rattle.srm_net.specs.declared.packet.Heard.{Heard}
use Rattle.srm_net.specs.declared.packet.Body.{Body}
use Rattle.srm_net.specs.declared.packet.Body.TheVariants.{Drawop, Request, Repair, Session}
use Rattle.srm_net.specs.Names.{page_of, name_in, name_cmp}
use Rattle.srm_net.specs.Roles.{is_listener}
use Rattle.srm_member.specs.declared.cause.Cause.{Cause}
use Rattle.srm_member.specs.declared.cause.Cause.TheVariants.{Join, Arrival, Ask, Answer, Draw, Report}
use Rattle.srm_member.specs.declared.fixed.Fixed.{Fixed}
use Rattle.srm_member.specs.declared.intervals.Intervals.{Intervals}
use Rattle.srm_member.specs.Intervals.{Interval, Limits, hear_duplicate}
use Rattle.srm_member.specs.IntervalLaws.{Change, changed, HasNoRoom}
use Rattle.srm_member.specs.AdaptingLaws.{HasFixedTimers, IsAdaptedWithin, FixedTimersIgnoreWhatIsSeen}
use Rattle.srm_member.specs.AdaptingLaws.{DifferInAdapted, FixedTimersAreToldAtJoinsAlone, ListenersTellNoIntervals}
use Rattle.srm_member.specs.Record.{MemberState, Missing, Repairing, Progress, timers_of}
use Rattle.srm_member.specs.React.{Reaction, has_entry, with_next_word, request_length, repair_length, back_off, distance_to}
use Rattle.srm_member.specs.React.{with_progress, with_request_delay, with_losses_begun, with_mending_seen, with_repair_seen}
use Rattle.srm_member.specs.React.{with_repairs_begun}
use Rattle.srm_member.specs.React.{with_request_first, meet, lose_one, lose_from}
use Rattle.srm_member.specs.React.{lose_below, lost_below, with_held, with_mended, hear_data, with_rest, hear_repair, with_repair_timer}
use Rattle.srm_member.specs.React.{hear_request_by_entry, hear_request_of_held, hear_request_of_missing, hear_request}
use Rattle.srm_member.specs.React.{after_entry}
use Rattle.srm_member.specs.React.{lost_by_entry, hear_session, hear_body, expire_request_by_entry, expire_request, expire_repair_by_entry}
use Rattle.srm_member.specs.React.{expire_repair, draw_operation, is_skip, react_active}
use Rattle.srm_member.specs.React.{react_listener, react, intervals_of, adapted_at}
use Rattle.srm_member.specs.React.{telling_intervals, without, rest_of, begins_second_step, with_timer_set}
use Rattle.srm_member.specs.React.{with_second_step, after_repair, with_timer_taken_over}
use Rattle.srm_member.specs.React.{hear_request_by_timer, with_repair_first, with_answer_seen, with_own_timer_ended}
use Rattle.srm_member.specs.LocalRecovery.{serves, mark_from, mark_after, local_of, is_second_step, takes_over, rests_for}
use Rattle.srm_member.specs.declared.mark.RepairMark.{RepairMark}
use Rattle.srm_member.specs.declared.resting.Resting.{Resting}
use Rattle.srm_net.specs.declared.packet.Local.{Local}
use Rattle.srm_member.proofs.LawProofs.{as_listener}
use Rattle.srm_member.proofs.IntervalChanges.{Adapts, adapts_delay, adapts_losses, adapts_mending, adapts_repair_seen, adapts_repairs_begun}
use Rattle.srm_member.proofs.IntervalChanges.{adapts_duplicate, adapts_request_first, adapts_same, adapts_back_off, adapts_repair_first}
use Rattle.srm_member.specs.declared.react.React.{React}

-- start and width are the first values
abbrev AreFirst : Limits → Limits → Interval → Type 0
AreFirst start width i = (i.start ≡ start.first) × (i.width ≡ width.first)

stays_first : (start width : Limits) → HasNoRoom start → HasNoRoom width → (c : Change) (i : Interval) → AreFirst start width i
    → AreFirst start width (changed start width c i)
stays_first start width hs hw c i h = grind arith

-- a record with other intervals
abbrev swapped : Interval → Interval → MemberState → MemberState
swapped a b m = record m { request_interval = a; repair_interval = b }

-- a listener tells nothing of intervals
quiet_if : (b : Bool) (x y : Reaction) → x.answer.adapted ≡ None → y.answer.adapted ≡ None → (cond b x y).answer.adapted ≡ None
quiet_if true x y h g = h
quiet_if false x y h g = g

listener_tells_none : (m : MemberState) (cause : Cause) → (react_listener m cause).answer.adapted ≡ None
listener_tells_none m cause = grind arith

module _ (f : Fixed) (roomless : HasFixedTimers f) where
  abbrev Asks : Interval → Type 0
  Asks = AreFirst f.c1 f.c2

  abbrev Answers : Interval → Type 0
  Answers = AreFirst f.d1 f.d2

  asks : (c : Change) (i : Interval) → Asks i → Asks (changed f.c1 f.c2 c i)
  asks = stays_first f.c1 f.c2 roomless.c1 roomless.c2

  answers : (c : Change) (i : Interval) → Answers i → Answers (changed f.d1 f.d2 c i)
  answers = stays_first f.d1 f.d2 roomless.d1 roomless.d2

  -- this fixed part, and the first constants
  abbrev Fit : MemberState → Type 0
  Fit m = Adapts f Asks Answers asks answers m

  record Alike (m k : MemberState) : Type 0 where
    pub left : Fit m
    pub right : Fit k
    pub same : k ≡ swapped k.request_interval k.repair_interval m

  record AlikeReaction (r s : Reaction) : Type 0 where
    pub answer : s.answer ≡ r.answer
    pub state : Alike r.state s.state

  swap : (a b : Interval) (m : MemberState) → Fit m → Fit (swapped a b m) → Alike m (swapped a b m)
  swap a b m l r = record { left = l; right = r; same = refl }

  -- what holds of every record with other intervals holds of one that is alike
  by_swap : (R : MemberState → Type 0) (m k : MemberState) → Alike m k
      → ((a b : Interval) → Fit (swapped a b m) → R (swapped a b m)) → R k
  by_swap R m k h g = subst R (sym h.same) (g k.request_interval k.repair_interval (subst Fit h.same h.right))

  same_fit : (m n : MemberState) → n.fixed ≡ m.fixed → n.request_interval ≡ m.request_interval → n.repair_interval ≡ m.repair_interval
      → Fit m → Fit n
  same_fit = adapts_same f Asks Answers asks answers

  alike_if : (b : Bool) (x y z w : Reaction) → AlikeReaction x z → AlikeReaction y w → AlikeReaction (cond b x y) (cond b z w)
  alike_if true x y z w h g = h
  alike_if false x y z w h g = g

  -- ---- lengths of timers

  request_same : (a b : Interval) (m : MemberState) → Fit m → Fit (swapped a b m) → (i : ℕ) (n : Name)
      → request_length (swapped a b m) i n ≡ request_length m i n
  request_same a b m l r i n = grind arith

  repair_same : (a b : Interval) (m : MemberState) → Fit m → Fit (swapped a b m) → (d : ℕ)
      → repair_length (swapped a b m) d ≡ repair_length m d
  repair_same a b m l r d = grind arith

  alike_choice : (b : Bool) (x y z w : MemberState) → Alike x z → Alike y w → Alike (cond b x y) (cond b z w)
  alike_choice true x y z w h g = h
  alike_choice false x y z w h g = g

  -- ---- what sets timers

  alike_lose_one : (at : ℕ) (n : Name) (m k : MemberState) → Alike m k → Alike (lose_one at n m) (lose_one at n k)
  alike_lose_one at n m k h = grind arith

  abbrev backed_with : ℕ → Name → Missing → MemberState → ℕ → MemberState
  backed_with at n e m len = record (with_next_word m) {
    missing = put name_cmp n
        (record { detected = e.detected; expiry = at + len; backoffs = min (e.backoffs + 1) 10; ignore = at + len / 2 }) m.missing;
  }

  alike_back_off : (at : ℕ) (n : Name) (e : Missing) (m k : MemberState) → Alike m k → Alike (back_off at n e m) (back_off at n e k)
  alike_back_off at n e m k h = by_swap (λ q. Alike (back_off at n e m) (back_off at n e q)) m k h (λ a b fit.
      let q = with_request_delay at n e (swapped a b m) in
      let l = adapts_delay f Asks Answers asks answers at n e m h.left in
      let r = adapts_delay f Asks Answers asks answers at n e (swapped a b m) fit in
      record {
        left = adapts_back_off f Asks Answers asks answers at n e m h.left;
        right = adapts_back_off f Asks Answers asks answers at n e (swapped a b m) fit;
        same = ap (λ len. swapped q.request_interval b (backed_with at n e m len))
            (request_same q.request_interval b (with_request_delay at n e m) l r (min (e.backoffs + 1) 10) n);
      })

  alike_planning : (at : ℕ) (n : Name) (who : ℕ) (width : Option ℕ) (m k : MemberState) → Alike m k
      → Alike (with_repair_timer at n who width m) (with_repair_timer at n who width k)
  alike_planning at n who width m k h =
      by_swap (λ q. Alike (with_repair_timer at n who width m) (with_repair_timer at n who width q)) m k h (λ a b fit.
      let q = with_repairs_begun (swapped a b m) in
      let l = adapts_repairs_begun f Asks Answers asks answers m h.left in
      let r = adapts_repairs_begun f Asks Answers asks answers (swapped a b m) fit in
      record {
        left = same_fit (with_repairs_begun m) (with_repair_timer at n who width m) refl refl refl l;
        right = same_fit q (with_repair_timer at n who width (swapped a b m)) refl refl refl r;
        same = ap (λ len. swapped a q.repair_interval (with_timer_set at n len who width m))
            (repair_same a q.repair_interval (with_repairs_begun m) l r (distance_to m who));
      })

  alike_second : (at : ℕ) (n : Name) (rest : Resting) (local : Option Local) (m k : MemberState) → Alike m k
      → Alike (with_second_step at n rest local m) (with_second_step at n rest local k)
  alike_second at n rest None m k h = h
  alike_second at n rest (Some l) m k h =
      by_swap (λ q. Alike (with_second_step at n rest (Some l) m) (with_second_step at n rest (Some l) q)) m k h (λ a b fit.
      let set = λ (ticks : ℕ) (x : MemberState). with_timer_set at n ticks m.fixed.member (Some l.width) x in
      alike_choice (begins_second_step at n rest l m) _ _ _ _
      (record {
        left = same_fit m (set (repair_length m 0) m) refl refl refl h.left;
        right = same_fit (swapped a b m) (set (repair_length (swapped a b m) 0) (swapped a b m)) refl refl refl fit;
        same = ap (λ len. swapped a b (set len m)) (repair_same a b m h.left fit 0);
      })
      (swap a b m h.left fit))

  -- ---- what sets none

  -- a change of other parts than intervals
  alike_plain : (F : MemberState → MemberState) → ((a b : Interval) (m : MemberState) → F (swapped a b m) ≡ swapped a b (F m))
      → ((m : MemberState) → Fit m → Fit (F m))
      → ((m : MemberState) → (F m).request_interval ≡ m.request_interval) → ((m : MemberState) → (F m).repair_interval ≡ m.repair_interval)
      → (m k : MemberState) → Alike m k → Alike (F m) (F k)
  alike_plain F e fits p q m k h = grind arith

  alike_progress : (p : PageId) (s : Progress) (m k : MemberState) → Alike m k → Alike (with_progress p s m) (with_progress p s k)
  alike_progress p s = alike_plain (with_progress p s) (λ a b m. refl) (λ m h. same_fit m (with_progress p s m) refl refl refl h)
      (λ m. refl) (λ m. refl)

  alike_holding : (n : Name) (ink : ℕ) (m k : MemberState) → Alike m k → Alike (with_held n ink m) (with_held n ink k)
  alike_holding n ink = alike_plain (with_held n ink) (λ a b m. refl) (λ m h. same_fit m (with_held n ink m) refl refl refl h)
      (λ m. refl) (λ m. refl)

  alike_mended : (n : Name) (ink : ℕ) (m k : MemberState) → Alike m k → Alike (with_mended n ink m) (with_mended n ink k)
  alike_mended n ink = alike_plain (with_mended n ink) (λ a b m. refl) (λ m h. same_fit m (with_mended n ink m) refl refl refl h)
      (λ m. refl) (λ m. refl)

  alike_resting : (at : ℕ) (n : Name) (who : ℕ) (mark : Option RepairMark) (m k : MemberState) → Alike m k
      → Alike (with_rest at n who mark m) (with_rest at n who mark k)
  alike_resting at n who None = alike_plain (with_rest at n who None) (λ a b m. refl)
      (λ m h. same_fit m (with_rest at n who None m) refl refl refl h) (λ m. refl) (λ m. refl)
  alike_resting at n who (Some x) = alike_plain (with_rest at n who (Some x)) (λ a b m. refl)
      (λ m h. same_fit m (with_rest at n who (Some x) m) refl refl refl h) (λ m. refl) (λ m. refl)

  abbrev handed : Name → Repairing → MemberState → MemberState
  handed n r m = record m { repairs = put name_cmp n r m.repairs }

  alike_handed : (n : Name) (r : Repairing) (m k : MemberState) → Alike m k → Alike (handed n r m) (handed n r k)
  alike_handed n r = alike_plain (handed n r) (λ a b m. refl) (λ m h. same_fit m (handed n r m) refl refl refl h) (λ m. refl) (λ m. refl)

  abbrev unplanned : Name → MemberState → MemberState
  unplanned n m = record m { repairs = without n m.repairs }

  alike_unplanned : (n : Name) (m k : MemberState) → Alike m k → Alike (unplanned n m) (unplanned n k)
  alike_unplanned n = alike_plain (unplanned n) (λ a b m. refl) (λ m h. same_fit m (unplanned n m) refl refl refl h) (λ m. refl) (λ m. refl)

  alike_lose_from : (at : ℕ) (p : PageId) (count first : ℕ) (m k : MemberState) → Alike m k
      → Alike (lose_from at p count first m) (lose_from at p count first k)
  unfolding lose_from
  alike_lose_from at p zero first m k h = h
  alike_lose_from at p (suc count) first m k h = alike_lose_from at p count (suc first) (lose_one at (name_in p first) m)
      (lose_one at (name_in p first) k) (alike_lose_one at (name_in p first) m k h)

  -- ---- what changes intervals alone

  -- a change of intervals alone
  alike_change : (F : MemberState → MemberState)
      → ((m : MemberState) → F m ≡ swapped (F m).request_interval (F m).repair_interval m) → ((m : MemberState) → Fit m → Fit (F m))
      → (m k : MemberState) → Alike m k → Alike (F m) (F k)
  alike_change F e fits m k h = grind arith

  alike_losses : (lost : List Name) (n : ℕ) (s : Progress) (m k : MemberState) → Alike m k
      → Alike (with_losses_begun lost n s m) (with_losses_begun lost n s k)
  alike_losses lost n s = alike_change (with_losses_begun lost n s) (λ m. refl) (adapts_losses f Asks Answers asks answers lost n s)

  alike_mending : (at : ℕ) (n : Name) (repaired : Bool) (m k : MemberState) → Alike m k
      → Alike (with_mending_seen at n repaired m) (with_mending_seen at n repaired k)
  alike_mending at n repaired =
      alike_change (with_mending_seen at n repaired) (λ m. refl) (adapts_mending f Asks Answers asks answers at n repaired)

  -- a repair that is seen: the state but for its intervals is one of two
  alike_repair_seen : (at : ℕ) (n : Name) (who : ℕ) (local : Option Local) (rest : Resting) (o : Option Repairing) (m k : MemberState)
      → Alike m k → Alike (with_repair_seen at n who local rest o m) (with_repair_seen at n who local rest o k)
  alike_repair_seen at n who local rest None m k h =
      alike_change (with_repair_seen at n who local rest None) (λ x. refl)
      (adapts_repair_seen f Asks Answers asks answers at n who local rest None) m k h
  alike_repair_seen at n who local rest (Some r) m k h =
      by_swap (λ q. Alike (with_repair_seen at n who local rest (Some r) m) (with_repair_seen at n who local rest (Some r) q)) m k h
      (λ a b fit.
      let left = adapts_repair_seen f Asks Answers asks answers at n who local rest (Some r) m h.left in
      let right = adapts_repair_seen f Asks Answers asks answers at n who local rest (Some r) (swapped a b m) fit in
      ended_alike (serves m.fixed (mark_from m.fixed who local) r.requester r.width) _ _ (swapped a b m) m
      left right refl refl)
    where
      ended_alike : (c : Bool) (x y z w : MemberState) → Fit (cond c x w) → Fit (cond c y z)
          → y ≡ swapped y.request_interval y.repair_interval x → z ≡ swapped z.request_interval z.repair_interval w
          → Alike (cond c x w) (cond c y z)
      ended_alike true x y z w l r e g = record { left = l; right = r; same = e }
      ended_alike false x y z w l r e g = record { left = l; right = r; same = g }

  alike_answer_seen : (at : ℕ) (r : Repairing) (m k : MemberState) → Alike m k → Alike (with_answer_seen at r m) (with_answer_seen at r k)
  alike_answer_seen at r m k h =
      by_swap (λ q. Alike (with_answer_seen at r m) (with_answer_seen at r q)) m k h (λ a b fit.
      let g = swap a b m h.left fit in
      alike_choice (is_second_step m.fixed r) _ _ _ _ g
      (alike_change (with_repair_first at r) (λ x. refl) (adapts_repair_first f Asks Answers asks answers at r) m (swapped a b m) g))

  alike_own_ended : (at : ℕ) (n : Name) (r : Repairing) (mark : Option RepairMark) (m k : MemberState) → Alike m k
      → Alike (with_own_timer_ended at n r mark m) (with_own_timer_ended at n r mark k)
  alike_own_ended at n r mark m k h =
      by_swap (λ q. Alike (with_own_timer_ended at n r mark m) (with_own_timer_ended at n r mark q)) m k h (λ a b fit.
      alike_unplanned n _ _ (alike_resting at n m.fixed.member mark _ _
      (alike_answer_seen at r m (swapped a b m) (swap a b m h.left fit))))

  abbrev hearing : MemberState → MemberState
  hearing m = record m { request_interval = hear_duplicate m.request_interval }

  alike_duplicate : (m k : MemberState) → Alike m k → Alike (hearing m) (hearing k)
  alike_duplicate = alike_change hearing (λ m. refl) (adapts_duplicate f Asks Answers asks answers)

  alike_request_first : (e : Missing) (m k : MemberState) → Alike m k → Alike (with_request_first e m) (with_request_first e k)
  alike_request_first e = alike_change (with_request_first e) (λ m. refl) (adapts_request_first f Asks Answers asks answers e)

  -- ---- events

  alike_lose : (at : ℕ) (p : PageId) (n next : ℕ) (s : Progress) (lost : List Name) (m k : MemberState) → Alike m k
      → Alike (lose_below at p n next s lost m) (lose_below at p n next s lost k)
  unfolding lose_below
  alike_lose at p n next s lost m k h =
      alike_progress p (record { floor = s.floor; next = next }) _ _
      (alike_lose_from at p (n - s.next) s.next _ _ (alike_losses lost n s m k h))

  data_alike : (at : ℕ) (n : Name) (ink : ℕ) (repaired : Bool) (a b : Interval) (m : MemberState) → Alike m (swapped a b m)
      → AlikeReaction (hear_data at n ink repaired m) (hear_data at n ink repaired (swapped a b m))
  unfolding hear_data
  data_alike at n ink repaired a b m h =
      let p = page_of n in
      let s = meet m p n.number in
      let q = swapped a b m in
      let met = alike_progress p s m q h in
      alike_if (nat_lt n.number s.floor) _ _ _ _ (record { answer = refl; state = met })
      (alike_if (nat_le s.next n.number) _ _ _ _
      (record { answer = refl; state = alike_holding n ink _ _ (alike_lose at p n.number (n.number + 1) s [] m q h) })
      (alike_if (has_entry n m.missing) _ _ _ _
      (record { answer = refl; state = alike_mended n ink _ _ (alike_progress p s _ _ (alike_mending at n repaired m q h)) })
      (record { answer = refl; state = met })))

  alike_data : (at : ℕ) (n : Name) (ink : ℕ) (repaired : Bool) (m k : MemberState) → Alike m k
      → AlikeReaction (hear_data at n ink repaired m) (hear_data at n ink repaired k)
  alike_data at n ink repaired m k h = by_swap (λ q. AlikeReaction (hear_data at n ink repaired m) (hear_data at n ink repaired q)) m k h
      (λ a b fit. data_alike at n ink repaired a b m (swap a b m h.left fit))

  alike_after_repair : (at : ℕ) (n : Name) (who : ℕ) (local : Option Local) (m k : MemberState) → Alike m k
      → Alike (after_repair at n who local m) (after_repair at n who local k)
  alike_after_repair at n who local m k h =
      by_swap (λ q. Alike (after_repair at n who local m) (after_repair at n who local q)) m k h (λ a b fit.
      alike_second at n (rest_of n m) local _ _
      (alike_repair_seen at n who local (rest_of n m) (find name_cmp n m.repairs) _ _
      (alike_resting at n who (mark_from m.fixed who local) m (swapped a b m) (swap a b m h.left fit))))

  repaired_alike : (at : ℕ) (n : Name) (who : ℕ) (local : Option Local) (r s : Reaction) → AlikeReaction r s
      → AlikeReaction (cond (is_skip r.answer.told) r (record r { state = after_repair at n who local r.state }))
      (cond (is_skip s.answer.told) s (record s { state = after_repair at n who local s.state }))
  repaired_alike at n who local r s h =
      subst (λ t. AlikeReaction (cond (is_skip r.answer.told) r (record r { state = after_repair at n who local r.state }))
      (cond (is_skip t.told) s (record s { state = after_repair at n who local s.state }))) (sym h.answer)
      (alike_if (is_skip r.answer.told) r _ s _ h
      (record { answer = h.answer; state = alike_after_repair at n who local r.state s.state h.state }))

  alike_repair : (at : ℕ) (n : Name) (ink who : ℕ) (local : Option Local) (m k : MemberState) → Alike m k
      → AlikeReaction (hear_repair at n ink who local m) (hear_repair at n ink who local k)
  alike_repair at n ink who local m k h = repaired_alike at n who local _ _ (alike_data at n ink true m k h)

  alike_asked : (at : ℕ) (n : Name) (lost : List Name) (m k : MemberState) (o : Option Missing) → Alike m k
      → AlikeReaction (hear_request_by_entry at n lost m o) (hear_request_by_entry at n lost k o)
  alike_asked at n lost m k None h = record { answer = refl; state = h }
  alike_asked at n lost m k (Some e) h = alike_if (nat_lt at e.ignore) _ _ _ _
      (record { answer = refl; state = alike_duplicate m k h }) (record { answer = refl; state = alike_back_off at n e m k h })

  alike_missing : (at : ℕ) (n : Name) (lost : List Name) (m k : MemberState) → Alike m k
      → AlikeReaction (hear_request_of_missing at n lost m) (hear_request_of_missing at n lost k)
  alike_missing at n lost m k h =
      by_swap (λ q. AlikeReaction (hear_request_of_missing at n lost m) (hear_request_of_missing at n lost q)) m k h
      (λ a b fit. alike_asked at n lost m (swapped a b m) (find name_cmp n m.missing) (swap a b m h.left fit))

  alike_taken_over : (n : Name) (who : ℕ) (width : Option ℕ) (r : Repairing) (m k : MemberState) → Alike m k
      → Alike (with_timer_taken_over n who width r m) (with_timer_taken_over n who width r k)
  alike_taken_over n who width r m k h =
      by_swap (λ q. Alike (with_timer_taken_over n who width r m) (with_timer_taken_over n who width r q)) m k h (λ a b fit.
      let g = swap a b m h.left fit in
      alike_choice (takes_over m.fixed width r) _ _ _ _ (alike_handed n (record r { requester = who; width = width }) _ _ g) g)

  alike_by_timer : (at : ℕ) (n : Name) (who : ℕ) (width : Option ℕ) (m k : MemberState) (o : Option Repairing) → Alike m k
      → AlikeReaction (hear_request_by_timer at n who width m o) (hear_request_by_timer at n who width k o)
  alike_by_timer at n who width m k None h = record { answer = refl; state = alike_planning at n who width m k h }
  alike_by_timer at n who width m k (Some r) h = record { answer = refl; state = alike_taken_over n who width r m k h }

  alike_held : (at : ℕ) (n : Name) (who : ℕ) (width : Option ℕ) (m k : MemberState) → Alike m k
      → AlikeReaction (hear_request_of_held at n who width m) (hear_request_of_held at n who width k)
  alike_held at n who width m k h =
      by_swap (λ q. AlikeReaction (hear_request_of_held at n who width m) (hear_request_of_held at n who width q)) m k h (λ a b fit.
      let g = swap a b m h.left fit in
      alike_if (rests_for at m.fixed (rest_of n m) who width) _ _ _ _ (record { answer = refl; state = g })
      (alike_by_timer at n who width m (swapped a b m) (find name_cmp n m.repairs) g))

  request_alike : (at : ℕ) (n : Name) (who : ℕ) (width : Option ℕ) (a b : Interval) (m : MemberState) → Alike m (swapped a b m)
      → AlikeReaction (hear_request at n who width m) (hear_request at n who width (swapped a b m))
  unfolding hear_request
  request_alike at n who width a b m h =
      let p = page_of n in
      let s = meet m p (n.number + 1) in
      let k = with_progress p s m in
      let met = alike_progress p s m (swapped a b m) h in
      alike_if (nat_lt n.number s.floor) _ _ _ _ (record { answer = refl; state = met })
      (alike_if (has_entry n k.held) _ _ _ _ (alike_held at n who width _ _ met)
      (alike_if (nat_le s.next n.number) _ _ _ _
      (alike_missing at n (lost_below p (n.number + 1) s) _ _ (alike_lose at p (n.number + 1) (n.number + 1) s [] _ _ met))
      (alike_missing at n [] _ _ met)))

  alike_entry : (at : ℕ) (d : Heard) (lost : List Name) (a b : Interval) (m : MemberState) → Alike m (swapped a b m)
      → Alike (after_entry at d lost m) (after_entry at d lost (swapped a b m))
  unfolding after_entry
  alike_entry at d lost a b m h = grind (arith, alike_lose)

  alike_session : (at : ℕ) (hs : List Heard) (m k : MemberState) (lost : List Name) → Alike m k
      → AlikeReaction (hear_session at hs m lost) (hear_session at hs k lost)
  unfolding hear_session
  alike_session at [] m k lost h = record { answer = refl; state = h }
  alike_session at (d ∷ hs) m k lost h =
      by_swap (λ q. AlikeReaction (hear_session at (d ∷ hs) m lost) (hear_session at (d ∷ hs) q lost)) m k h (λ a b fit.
      alike_session at hs (after_entry at d lost m) (after_entry at d lost (swapped a b m)) (lost ++ lost_by_entry d m)
      (alike_entry at d lost a b m (swap a b m h.left fit)))

  alike_hear : (at who : ℕ) (body : Body) (a b : Interval) (m : MemberState) → Alike m (swapped a b m)
      → AlikeReaction (hear_body at who body m) (hear_body at who body (swapped a b m))
  alike_hear at who (Drawop n ink) a b m h = data_alike at n ink false a b m h
  alike_hear at who (Repair n ink local) a b m h = alike_repair at n ink who local m (swapped a b m) h
  alike_hear at who (Request n scope) a b m h = request_alike at n who scope a b m h
  alike_hear at who (Session hs) a b m h = alike_session at hs m (swapped a b m) [] h

  alike_asking : (at : ℕ) (n : Name) (m k : MemberState) (o : Option Missing) → Alike m k
      → AlikeReaction (expire_request_by_entry at n m o) (expire_request_by_entry at n k o)
  alike_asking at n m k None h = record { answer = refl; state = h }
  alike_asking at n m k (Some e) h =
      by_swap (λ q. AlikeReaction (expire_request_by_entry at n m (Some e)) (expire_request_by_entry at n q (Some e))) m k h (λ a b fit.
      record { answer = refl; state = alike_back_off at n e _ _ (alike_request_first e m (swapped a b m) (swap a b m h.left fit)) })

  alike_answering : (at : ℕ) (n : Name) (a b : Interval) (m : MemberState) (o : Option Repairing) → Alike m (swapped a b m)
      → AlikeReaction (expire_repair_by_entry at n m o) (expire_repair_by_entry at n (swapped a b m) o)
  alike_answering at n a b m None h = record { answer = refl; state = h }
  alike_answering at n a b m (Some r) h = record {
    answer = refl;
    state = alike_own_ended at n r (mark_after 0 (local_of m.fixed r)) m (swapped a b m) h;
  }

  alike_drawing : (page ink : ℕ) (a b : Interval) (m : MemberState) → Alike m (swapped a b m)
      → AlikeReaction (draw_operation page ink m) (draw_operation page ink (swapped a b m))
  unfolding draw_operation
  alike_drawing page ink a b m h = grind arith

  alike_active : (at : ℕ) (cause : Cause) (a b : Interval) (m : MemberState) → Alike m (swapped a b m)
      → AlikeReaction (react_active m at cause) (react_active (swapped a b m) at cause)
  unfolding expire_request expire_repair
  alike_active at Join a b m h = record { answer = refl; state = h }
  alike_active at (Arrival p) a b m h = alike_hear at p.id.sender p.body a b m h
  alike_active at (Ask n) a b m h = alike_asking at n m (swapped a b m) (find name_cmp n m.missing) h
  alike_active at (Answer n) a b m h = alike_answering at n a b m (find name_cmp n m.repairs) h
  alike_active at (Draw page ink) a b m h = alike_drawing page ink a b m h
  alike_active at Report a b m h = record { answer = refl; state = h }

  alike_listener : (cause : Cause) (a b : Interval) (m : MemberState) → Alike m (swapped a b m)
      → AlikeReaction (react_listener m cause) (react_listener (swapped a b m) cause)
  alike_listener cause a b m h = grind arith

  -- the same but for what the answers tell of intervals
  record AlikeTold (r s : Reaction) : Type 0 where
    pub answer : DifferInAdapted r.answer s.answer
    pub state : Alike r.state s.state

  told_if : (b : Bool) (x y z w : Reaction) → AlikeTold x z → AlikeTold y w → AlikeTold (cond b x y) (cond b z w)
  told_if true x y z w h g = h
  told_if false x y z w h g = g

  told_quiet : (r s : Reaction) → AlikeReaction r s → AlikeTold r s
  told_quiet r s h = record { answer = ap (λ (a : React). record a { adapted = s.answer.adapted }) h.answer; state = h.state }

  told_alike : (cause : Cause) (i j : Intervals) (r s : Reaction) → AlikeReaction r s
      → AlikeTold (telling_intervals cause i r) (telling_intervals cause j s)
  told_alike cause i j r s h = grind arith

  react_alike : (at : ℕ) (cause : Cause) (a b : Interval) (m : MemberState) → Alike m (swapped a b m)
      → AlikeTold (react m at cause) (react (swapped a b m) at cause)
  unfolding react
  react_alike at cause a b m h =
      told_if (is_listener m.fixed.role) _ _ _ _ (told_quiet _ _ (alike_listener cause a b m h))
      (told_alike cause _ _ _ _ (alike_active at cause a b m h))

  alike_react : (at : ℕ) (cause : Cause) (m k : MemberState) → Alike m k → AlikeTold (react m at cause) (react k at cause)
  alike_react at cause m k h = by_swap (λ q. AlikeTold (react m at cause) (react q at cause)) m k h
      (λ a b fit. react_alike at cause a b m (swap a b m h.left fit))

  -- ---- what is told of intervals

  none_at : (cause : Cause) (m k : MemberState) → Fit m → Fit k → cause ≢ Join
      → adapted_at cause (intervals_of m) (intervals_of k) ≡ None
  none_at cause m k h g other = grind arith

  react_tells_none : (at : ℕ) (cause : Cause) (m : MemberState) → Fit m → cause ≢ Join → (react m at cause).answer.adapted ≡ None
  unfolding react
  react_tells_none at cause m h other =
      let after = alike_active at cause m.request_interval m.repair_interval m (swap m.request_interval m.repair_interval m h h) in
      quiet_if (is_listener m.fixed.role) (react_listener m cause) (telling_intervals cause (intervals_of m) (react_active m at cause))
      (listener_tells_none m cause)
      (none_at cause m (react_active m at cause).state h after.state.left other)

-- a record within limits without room has the first constants
first_of : (f : Fixed) (roomless : HasFixedTimers f) (m : MemberState) → m.fixed ≡ f → IsAdaptedWithin m → Fit f roomless m
first_of f roomless m e w = grind arith

pub fixed_timers_ignore_what_is_seen : FixedTimersIgnoreWhatIsSeen
fixed_timers_ignore_what_is_seen m k at cause roomless wm wk differ =
    let fixed : k.fixed ≡ m.fixed = ap (λ (x : MemberState). x.fixed) differ in
    let r = alike_react m.fixed roomless at cause m k (record {
      left = first_of m.fixed roomless m refl wm;
      right = first_of m.fixed roomless k fixed wk;
      same = differ;
    }) in
    (r.answer, ap timers_of r.state.same, r.state.same)

pub fixed_timers_are_told_at_joins_alone : FixedTimersAreToldAtJoinsAlone
fixed_timers_are_told_at_joins_alone m at cause roomless w other =
    react_tells_none m.fixed roomless at cause m (first_of m.fixed roomless m refl w) other

pub listeners_tell_no_intervals : ListenersTellNoIntervals
listeners_tell_no_intervals m at cause role =
    ap (λ (r : Reaction). r.answer.adapted) (as_listener m at cause (ap is_listener role)) ∙ listener_tells_none m cause
