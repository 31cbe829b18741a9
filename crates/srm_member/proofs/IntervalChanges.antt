-- What a reaction does to the intervals of timers: their own four changes, and nothing else.
use Rattle.std.proofs.Common.{arith}
use Rattle.std.proofs.Common.{◌≡◌, ℕ, zero, suc, ◌+◌, ◌-◌, Bool, true, false, cond, ◌&&◌, ◌==◌, List, [], ◌∷◌, length, refl}
use Rattle.std.proofs.Common.{Option, Some, None, nat_lt, nat_le, sym, subst, ◌∙◌}
use Rattle.std.specs.FinMap.Entries.{find}
use Rattle.srm_net.specs.declared.packet.Name.{Name}
use Rattle.srm_net.specs.declared.packet.PageId.{PageId}
use Rattle.srm_net.specs.declared.packet.Heard.{Heard}
use Rattle.srm_net.specs.declared.packet.Body.{Body}
use Rattle.srm_net.specs.Names.{page_of, name_in, name_cmp}
use Rattle.srm_net.specs.Roles.{is_listener}
use Rattle.srm_member.specs.declared.cause.Cause.{Cause}
use Rattle.srm_member.specs.declared.fixed.Fixed.{Fixed}
use Rattle.srm_member.specs.Intervals.{Interval, begin_period, send_first, hear_duplicate}
use Rattle.srm_member.specs.IntervalLaws.{Change, Begins, Delays, Sends, Hears, changed}
use Rattle.srm_member.specs.Record.{MemberState, Missing, Repairing, Progress}
use Rattle.srm_member.specs.React.{Reaction, has_entry, distance_to, back_off, with_progress, with_request_delay}
use Rattle.srm_member.specs.React.{with_losses_begun, with_mending_seen, with_repair_seen, with_repairs_begun, after_repair_delay}
use Rattle.srm_member.specs.React.{with_request_first, with_repair_first, interval_at_mending, rest_of, with_mark}
use Rattle.srm_member.specs.React.{with_rest, begins_second_step, with_timer_set}
use Rattle.srm_member.specs.React.{with_second_step, after_repair, is_skip, with_repair_timer, with_timer_taken_over, repair_length}
use Rattle.srm_member.specs.React.{hear_request_by_timer, with_answer_seen, with_own_timer_ended}
use Rattle.srm_member.specs.React.{meet, lose_one, lose_from, lose_below, hear_data, hear_repair}
use Rattle.srm_member.specs.React.{hear_request_by_entry, hear_request_of_held, hear_request, after_entry}
use Rattle.srm_member.specs.LocalRecovery.{serves, mark_from, mark_after, local_of, is_duplicate, is_second_step, takes_over}
use Rattle.srm_member.specs.LocalRecovery.{rests_for}
use Rattle.srm_member.specs.declared.mark.RepairMark.{RepairMark}
use Rattle.srm_member.specs.declared.resting.Resting.{Resting}
use Rattle.srm_net.specs.declared.packet.Local.{Local}
use Rattle.srm_member.specs.React.{hear_session, hear_body, expire_request_by_entry, expire_request, expire_repair_by_entry, expire_repair}
use Rattle.srm_member.specs.React.{draw_operation, react_active}
use Rattle.srm_member.specs.React.{react_listener, react}

module _ (f : Fixed) (P Q : Interval → Type 0)
    (ask : (c : Change) (i : Interval) → P i → P (changed f.c1 f.c2 c i))
    (answer : (c : Change) (i : Interval) → Q i → Q (changed f.d1 f.d2 c i)) where
  -- the fixed part, and what holds of the interval of requests and of that of repairs
  pub record Adapts (m : MemberState) : Type 0 where
    pub same : m.fixed ≡ f
    pub requests : P m.request_interval
    pub repairs : Q m.repair_interval

  adapts_if : (b : Bool) (x y : Reaction) → Adapts x.state → Adapts y.state → Adapts (cond b x y).state
  adapts_if true x y h g = h
  adapts_if false x y h g = g

  request_if : (b : Bool) (i j : Interval) → P i → P j → P (cond b i j)
  request_if true i j h g = h
  request_if false i j h g = g

  repair_if : (b : Bool) (i j : Interval) → Q i → Q j → Q (cond b i j)
  repair_if true i j h g = h
  repair_if false i j h g = g

  -- ---- what changes an interval

  pub adapts_delay : (at : ℕ) (n : Name) (e : Missing) (m : MemberState) → Adapts m → Adapts (with_request_delay at n e m)
  adapts_delay at n e m a = record {
    same = a.same;
    requests = request_if (e.backoffs == 0) _ _
        (ask (Delays (at - e.detected) (distance_to m n.source)) m.request_interval a.requests) a.requests;
    repairs = a.repairs;
  }

  pub adapts_losses : (lost : List Name) (n : ℕ) (s : Progress) (m : MemberState) → Adapts m → Adapts (with_losses_begun lost n s m)
  adapts_losses lost n s m a =
      let begun : P (begin_period m.fixed.c1 m.fixed.c2 m.request_interval) =
      subst (λ (g : Fixed). P (begin_period g.c1 g.c2 m.request_interval)) (sym a.same) (ask Begins m.request_interval a.requests) in
      record {
        same = a.same;
        requests = request_if ((length lost == 0) && nat_lt s.next n) _ _ begun a.requests;
        repairs = a.repairs;
      }

  pub adapts_mending_by : (at : ℕ) (n : Name) (repaired : Bool) (m : MemberState) (o : Option Missing) → Adapts m
      → P (interval_at_mending at n repaired m o)
  adapts_mending_by at n repaired m None a = a.requests
  adapts_mending_by at n repaired m (Some e) a = request_if (repaired && (e.backoffs == 0)) _ _
      (ask (Delays (at - e.detected) (distance_to m n.source)) m.request_interval a.requests) a.requests

  pub adapts_mending : (at : ℕ) (n : Name) (repaired : Bool) (m : MemberState) → Adapts m → Adapts (with_mending_seen at n repaired m)
  adapts_mending at n repaired m a = grind (arith, adapts_mending_by)

  adapts_choice : (b : Bool) (x y : MemberState) → Adapts x → Adapts y → Adapts (cond b x y)
  adapts_choice true x y h g = h
  adapts_choice false x y h g = g

  pub adapts_repair_seen : (at : ℕ) (n : Name) (who : ℕ) (local : Option Local) (rest : Resting) (o : Option Repairing) (m : MemberState)
      → Adapts m → Adapts (with_repair_seen at n who local rest o m)
  adapts_repair_seen at n who local rest None m a = record {
    same = a.same;
    requests = a.requests;
    repairs = repair_if (is_duplicate at m.fixed rest who local) _ _ (answer Hears m.repair_interval a.repairs) a.repairs;
  }
  adapts_repair_seen at n who local rest (Some r) m a =
      let ended : Q (cond (is_second_step m.fixed r) m.repair_interval (after_repair_delay at r m)) =
      repair_if (is_second_step m.fixed r) _ _ a.repairs
      (answer (Delays (at - r.set) (distance_to m r.requester)) m.repair_interval a.repairs) in
      adapts_choice (serves m.fixed (mark_from m.fixed who local) r.requester r.width) _ m
      (record { same = a.same; requests = a.requests; repairs = ended }) a

  pub adapts_repairs_begun : (m : MemberState) → Adapts m → Adapts (with_repairs_begun m)
  adapts_repairs_begun m a = record {
    same = a.same;
    requests = a.requests;
    repairs = subst (λ (g : Fixed). Q (begin_period g.d1 g.d2 m.repair_interval)) (sym a.same) (answer Begins m.repair_interval a.repairs);
  }

  pub adapts_duplicate : (m : MemberState) → Adapts m → Adapts (record m { request_interval = hear_duplicate m.request_interval })
  adapts_duplicate m a = record { same = a.same; requests = ask Hears m.request_interval a.requests; repairs = a.repairs }

  pub adapts_request_first : (e : Missing) (m : MemberState) → Adapts m → Adapts (with_request_first e m)
  adapts_request_first e m a =
      let sent : P (send_first m.fixed.c1 m.request_interval) =
      subst (λ (g : Fixed). P (send_first g.c1 m.request_interval)) (sym a.same) (ask Sends m.request_interval a.requests) in
      record { same = a.same; requests = request_if (e.backoffs == 0) _ _ sent a.requests; repairs = a.repairs }

  pub adapts_repair_first : (at : ℕ) (r : Repairing) (m : MemberState) → Adapts m → Adapts (with_repair_first at r m)
  adapts_repair_first at r m a =
      let sent : Q (send_first m.fixed.d1 m.repair_interval) =
      subst (λ (g : Fixed). Q (send_first g.d1 m.repair_interval)) (sym a.same) (answer Sends m.repair_interval a.repairs) in
      record {
        same = a.same;
        requests = a.requests;
        repairs = answer (Delays (at - r.set) (distance_to m r.requester)) (send_first m.fixed.d1 m.repair_interval) sent;
      }

  -- ---- what leaves the intervals as they are

  pub adapts_same : (m n : MemberState) → n.fixed ≡ m.fixed → n.request_interval ≡ m.request_interval
      → n.repair_interval ≡ m.repair_interval → Adapts m → Adapts n
  adapts_same m n e p q a = record { same = e ∙ a.same; requests = subst P (sym p) a.requests; repairs = subst Q (sym q) a.repairs }

  pub adapts_mark : (n : Name) (mark : Option RepairMark) (m : MemberState) → Adapts m → Adapts (with_mark n mark m)
  adapts_mark n None m a = record { same = a.same; requests = a.requests; repairs = a.repairs }
  adapts_mark n (Some k) m a = record { same = a.same; requests = a.requests; repairs = a.repairs }

  pub adapts_rest : (at : ℕ) (n : Name) (who : ℕ) (mark : Option RepairMark) (m : MemberState) → Adapts m
      → Adapts (with_rest at n who mark m)
  adapts_rest at n who mark m a = adapts_mark n mark _ (record { same = a.same; requests = a.requests; repairs = a.repairs })

  pub adapts_set : (at : ℕ) (n : Name) (ticks who : ℕ) (width : Option ℕ) (m : MemberState) → Adapts m
      → Adapts (with_timer_set at n ticks who width m)
  adapts_set at n ticks who width m a = record { same = a.same; requests = a.requests; repairs = a.repairs }

  pub adapts_second : (at : ℕ) (n : Name) (rest : Resting) (local : Option Local) (m : MemberState) → Adapts m
      → Adapts (with_second_step at n rest local m)
  adapts_second at n rest None m a = a
  adapts_second at n rest (Some l) m a = adapts_choice (begins_second_step at n rest l m) _ m
      (adapts_set at n (repair_length m 0) m.fixed.member (Some l.width) m a) a

  pub adapts_taken_over : (n : Name) (who : ℕ) (width : Option ℕ) (r : Repairing) (m : MemberState) → Adapts m
      → Adapts (with_timer_taken_over n who width r m)
  adapts_taken_over n who width r m a = adapts_choice (takes_over m.fixed width r) _ m
      (record { same = a.same; requests = a.requests; repairs = a.repairs }) a

  pub adapts_planning : (at : ℕ) (n : Name) (who : ℕ) (width : Option ℕ) (m : MemberState) → Adapts m
      → Adapts (with_repair_timer at n who width m)
  adapts_planning at n who width m a =
      let begun = adapts_repairs_begun m a in
      adapts_set at n (repair_length (with_repairs_begun m) (distance_to m who)) who width (with_repairs_begun m) begun

  pub adapts_answer_seen : (at : ℕ) (r : Repairing) (m : MemberState) → Adapts m → Adapts (with_answer_seen at r m)
  adapts_answer_seen at r m a = adapts_choice (is_second_step m.fixed r) m (with_repair_first at r m) a (adapts_repair_first at r m a)

  pub adapts_own_ended : (at : ℕ) (n : Name) (r : Repairing) (mark : Option RepairMark) (m : MemberState) → Adapts m
      → Adapts (with_own_timer_ended at n r mark m)
  adapts_own_ended at n r mark m a =
      let rested = adapts_rest at n m.fixed.member mark _ (adapts_answer_seen at r m a) in
      record { same = rested.same; requests = rested.requests; repairs = rested.repairs }

  pub adapts_back_off : (at : ℕ) (n : Name) (e : Missing) (m : MemberState) → Adapts m → Adapts (back_off at n e m)
  adapts_back_off at n e m a =
      adapts_same (with_request_delay at n e m) (back_off at n e m) refl refl refl (adapts_delay at n e m a)

  pub adapts_lose_from : (at : ℕ) (p : PageId) (count first : ℕ) (m : MemberState) → Adapts m → Adapts (lose_from at p count first m)
  unfolding lose_from
  adapts_lose_from at p zero first m a = a
  adapts_lose_from at p (suc count) first m a = adapts_lose_from at p count (suc first) (lose_one at (name_in p first) m)
      (adapts_same m (lose_one at (name_in p first) m) refl refl refl a)

  pub adapts_lose : (at : ℕ) (p : PageId) (n next : ℕ) (s : Progress) (lost : List Name) (m : MemberState) → Adapts m
      → Adapts (lose_below at p n next s lost m)
  unfolding lose_below
  adapts_lose at p n next s lost m a = grind (arith, adapts_lose_from, adapts_losses)

  -- ---- events

  pub adapts_data : (at : ℕ) (n : Name) (ink : ℕ) (repaired : Bool) (m : MemberState) → Adapts m
      → Adapts (hear_data at n ink repaired m).state
  unfolding hear_data
  adapts_data at n ink repaired m a = grind (arith, adapts_lose, adapts_mending)

  pub adapts_after_repair : (at : ℕ) (n : Name) (who : ℕ) (local : Option Local) (m : MemberState) → Adapts m
      → Adapts (after_repair at n who local m)
  adapts_after_repair at n who local m a = adapts_second at n (rest_of n m) local _
      (adapts_repair_seen at n who local (rest_of n m) (find name_cmp n m.repairs) _
      (adapts_rest at n who (mark_from m.fixed who local) m a))

  pub adapts_repair : (at : ℕ) (n : Name) (ink who : ℕ) (local : Option Local) (m : MemberState) → Adapts m
      → Adapts (hear_repair at n ink who local m).state
  adapts_repair at n ink who local m a =
      let r = hear_data at n ink true m in
      let g = adapts_data at n ink true m a in
      adapts_if (is_skip r.answer.told) r (record r { state = after_repair at n who local r.state }) g
      (adapts_after_repair at n who local r.state g)

  pub adapts_asked : (at : ℕ) (n : Name) (lost : List Name) (m : MemberState) (o : Option Missing) → Adapts m
      → Adapts (hear_request_by_entry at n lost m o).state
  adapts_asked at n lost m None a = a
  adapts_asked at n lost m (Some e) a = adapts_if (nat_lt at e.ignore) _ _ (adapts_duplicate m a) (adapts_back_off at n e m a)

  pub adapts_by_timer : (at : ℕ) (n : Name) (who : ℕ) (width : Option ℕ) (m : MemberState) (o : Option Repairing) → Adapts m
      → Adapts (hear_request_by_timer at n who width m o).state
  adapts_by_timer at n who width m None a = adapts_planning at n who width m a
  adapts_by_timer at n who width m (Some r) a = adapts_taken_over n who width r m a

  pub adapts_held : (at : ℕ) (n : Name) (who : ℕ) (width : Option ℕ) (m : MemberState) → Adapts m
      → Adapts (hear_request_of_held at n who width m).state
  adapts_held at n who width m a =
      adapts_if (rests_for at m.fixed (rest_of n m) who width) _ _ a (adapts_by_timer at n who width m (find name_cmp n m.repairs) a)

  pub adapts_request : (at : ℕ) (n : Name) (who : ℕ) (width : Option ℕ) (m : MemberState) → Adapts m
      → Adapts (hear_request at n who width m).state
  unfolding hear_request
  adapts_request at n who width m a =
      let s = meet m (page_of n) (n.number + 1) in
      let k = with_progress (page_of n) s m in
      let met : Adapts k = adapts_same m k refl refl refl a in
      let l = lose_below at (page_of n) (n.number + 1) (n.number + 1) s [] k in
      adapts_if (nat_lt n.number s.floor) _ _ met
      (adapts_if (has_entry n k.held) _ _ (adapts_held at n who width k met)
      (adapts_if (nat_le s.next n.number) _ _
      (adapts_asked at n _ l (find name_cmp n l.missing) (adapts_lose at (page_of n) (n.number + 1) (n.number + 1) s [] k met))
      (adapts_asked at n [] k (find name_cmp n k.missing) met)))

  pub adapts_entry : (at : ℕ) (h : Heard) (lost : List Name) (m : MemberState) → Adapts m → Adapts (after_entry at h lost m)
  unfolding after_entry
  adapts_entry at h lost m a = grind (arith, adapts_lose)

  pub adapts_session : (at : ℕ) (hs : List Heard) (m : MemberState) (lost : List Name) → Adapts m
      → Adapts (hear_session at hs m lost).state
  unfolding hear_session
  adapts_session at [] m lost a = a
  adapts_session at (h ∷ hs) m lost a = adapts_session at hs (after_entry at h lost m) _ (adapts_entry at h lost m a)

  adapts_hear : (at who : ℕ) (b : Body) (m : MemberState) → Adapts m → Adapts (hear_body at who b m).state
  adapts_hear at who b m a = grind (arith, adapts_data, adapts_repair, adapts_request, adapts_session)

  pub adapts_asking : (at : ℕ) (n : Name) (m : MemberState) (o : Option Missing) → Adapts m
      → Adapts (expire_request_by_entry at n m o).state
  adapts_asking at n m None a = a
  adapts_asking at n m (Some e) a = adapts_back_off at n e (with_request_first e m) (adapts_request_first e m a)

  pub adapts_answering : (at : ℕ) (n : Name) (m : MemberState) (o : Option Repairing) → Adapts m
      → Adapts (expire_repair_by_entry at n m o).state
  adapts_answering at n m None a = a
  adapts_answering at n m (Some r) a = adapts_own_ended at n r (mark_after 0 (local_of m.fixed r)) m a

  adapts_drawing : (page ink : ℕ) (m : MemberState) → Adapts m → Adapts (draw_operation page ink m).state
  unfolding draw_operation
  adapts_drawing page ink m a = grind arith

  adapts_active : (m : MemberState) (at : ℕ) (cause : Cause) → Adapts m → Adapts (react_active m at cause).state
  unfolding expire_request expire_repair
  adapts_active m at cause a = grind (arith, adapts_hear, adapts_asking, adapts_answering, adapts_drawing)

  adapts_listener : (m : MemberState) (cause : Cause) → Adapts m → Adapts (react_listener m cause).state
  adapts_listener m cause a = grind arith

  pub adapts_react : (m : MemberState) (at : ℕ) (cause : Cause) → Adapts m → Adapts (react m at cause).state
  unfolding react
  adapts_react m at cause a =
      adapts_if (is_listener m.fixed.role) _ _ (adapts_listener m cause a) (adapts_active m at cause a)
