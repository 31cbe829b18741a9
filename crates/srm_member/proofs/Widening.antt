-- Without scopes widen, tries and steps decide nothing.
use Rattle.std.proofs.Common.{◌≡◌, ℕ, zero, suc, ◌+◌, ◌-◌, ◌&&◌, Bool, true, false, cond, List, [], ◌∷◌, ◌++◌, refl, sym, ap, ◌∙◌}
use Rattle.std.proofs.Common.{arith, Option, Some, None, nat_lt, nat_le, unwrap_or}
use Rattle.std.specs.FinMap.Entries.{put, find}
use Rattle.std.specs.Option.{option_map}
use Rattle.srm_net.specs.declared.packet.Name.{Name}
use Rattle.srm_net.specs.declared.packet.PageId.{PageId}
use Rattle.srm_net.specs.declared.packet.Heard.{Heard}
use Rattle.srm_net.specs.declared.packet.Local.{Local}
use Rattle.srm_net.specs.declared.packet.Body.{Body}
use Rattle.srm_net.specs.declared.packet.Body.TheVariants.{Drawop, Request, Repair, Session}
use Rattle.srm_net.specs.Limits.{most_drawn}
use Rattle.srm_net.specs.Names.{page_of, name_in, name_cmp}
use Rattle.srm_net.specs.Roles.{is_listener, is_sender}
use Rattle.srm_net.specs.Scopes.{scope_of}
use Rattle.srm_member.specs.declared.cause.Cause.{Cause}
use Rattle.srm_member.specs.declared.cause.Cause.TheVariants.{Join, Arrival, Ask, Answer, Draw, Report}
use Rattle.srm_member.specs.declared.fixed.Fixed.{Fixed}
use Rattle.srm_member.specs.declared.resting.Resting.{Resting}
use Rattle.srm_member.specs.declared.steps.Steps.{Steps}
use Rattle.srm_member.specs.declared.told.Told.TheVariants.{Fresh, Busy}
use Rattle.srm_member.specs.LocalRecovery.{scope_of_request, local_of, mark_after, is_second_step, takes_over, rests_for}
use Rattle.srm_member.specs.Record.{MemberState, Missing, Repairing, Progress}
use Rattle.srm_member.specs.React.{Reaction, quietly, send_body, without, has_entry, back_off, meet, with_progress, lose_one, lose_from}
use Rattle.srm_member.specs.React.{with_losses_begun, lose_below, lost_below, hear_data, is_skip, rest_of, with_rest}
use Rattle.srm_member.specs.React.{with_repair_seen, after_repair, hear_repair, hear_request_by_entry}
use Rattle.srm_member.specs.React.{hear_request_by_timer, hear_request_of_held, hear_request, page_heard, after_entry, lost_by_entry}
use Rattle.srm_member.specs.React.{hear_session, hear_body, with_request_first, expire_request_by_entry, expire_request, with_repair_first}
use Rattle.srm_member.specs.React.{with_own_timer_ended, expire_repair_by_entry, expire_repair, own_progress}
use Rattle.srm_member.specs.React.{draw_operation, react_active, react_listener, react, telling_intervals, intervals_of}
use Rattle.srm_member.specs.React.{listen, listen_data}
use Rattle.srm_member.specs.LocalLaws.{IsWide, BringsNoScope, with_widening, WideningDecidesNothing}

-- ---- what has no scope

pub no_scope : (f : Fixed) (backoffs : ℕ) → f.scope ≡ 0 → scope_of_request f backoffs ≡ None
no_scope f backoffs e = grind arith

pub no_local : (f : Fixed) (r : Repairing) → r.width ≡ None → local_of f r ≡ None
no_local f r e = ap (option_map _) e

-- ---- a member with others

module _ (widen tries : ℕ) (steps : Steps) where
  abbrev other : MemberState → MemberState
  other m = with_widening widen tries steps m

  abbrev carry : Reaction → Reaction
  carry r = record r { state = other r.state }

  carry_if : (b : Bool) (x y z w : Reaction) → z ≡ carry x → w ≡ carry y → cond b z w ≡ carry (cond b x y)
  carry_if true x y z w h g = h
  carry_if false x y z w h g = g

  other_if : (b : Bool) (x y z w : MemberState) → z ≡ other x → w ≡ other y → cond b z w ≡ other (cond b x y)
  other_if true x y z w h g = h
  other_if false x y z w h g = g

  other_lose_from : (at : ℕ) (p : PageId) (count first : ℕ) (m : MemberState)
      → lose_from at p count first (other m) ≡ other (lose_from at p count first m)
  unfolding lose_from
  other_lose_from at p zero first m = refl
  other_lose_from at p (suc count) first m = other_lose_from at p count (suc first) (lose_one at (name_in p first) m)

  other_lose : (at : ℕ) (p : PageId) (n next : ℕ) (s : Progress) (lost : List Name) (m : MemberState)
      → lose_below at p n next s lost (other m) ≡ other (lose_below at p n next s lost m)
  unfolding lose_below
  other_lose at p n next s lost m = ap (with_progress p (record { floor = s.floor; next = next }))
      (other_lose_from at p (n - s.next) s.next (with_losses_begun lost n s m))

  other_data : (at : ℕ) (n : Name) (ink : ℕ) (repaired : Bool) (m : MemberState)
      → hear_data at n ink repaired (other m) ≡ carry (hear_data at n ink repaired m)
  unfolding hear_data
  other_data at n ink repaired m =
      let s = meet m (page_of n) n.number in
      carry_if (nat_lt n.number s.floor) _ _ _ _ refl
      (carry_if (nat_le s.next n.number) _ _ _ _
      (ap (λ (k : MemberState). quietly (record k { held = put name_cmp n ink k.held }) Fresh
      (lost_below (page_of n) n.number s)) (other_lose at (page_of n) n.number (n.number + 1) s [] m))
      (carry_if (has_entry n m.missing) _ _ _ _ refl refl))

  other_seen : (at : ℕ) (n : Name) (who : ℕ) (rest : Resting) (o : Option Repairing) (m : MemberState)
      → with_repair_seen at n who None rest o (other m) ≡ other (with_repair_seen at n who None rest o m)
  other_seen at n who rest None m = refl
  other_seen at n who rest (Some r) m = refl

  other_after : (at : ℕ) (n : Name) (who : ℕ) (m : MemberState)
      → after_repair at n who None (other m) ≡ other (after_repair at n who None m)
  other_after at n who m = other_seen at n who (rest_of n m) (find name_cmp n m.repairs) (with_rest at n who None m)

  abbrev repaired_by : ℕ → Name → ℕ → Reaction → Reaction
  repaired_by at n who r = cond (is_skip r.answer.told) r (record r { state = after_repair at n who None r.state })

  other_repaired : (at : ℕ) (n : Name) (who : ℕ) (r : Reaction) → repaired_by at n who (carry r) ≡ carry (repaired_by at n who r)
  other_repaired at n who r = carry_if (is_skip r.answer.told) _ _ _ _ refl
      (ap (λ (k : MemberState). record r { state = k }) (other_after at n who r.state))

  other_repair : (at : ℕ) (n : Name) (ink who : ℕ) (m : MemberState)
      → hear_repair at n ink who None (other m) ≡ carry (hear_repair at n ink who None m)
  other_repair at n ink who m = ap (repaired_by at n who) (other_data at n ink true m) ∙ other_repaired at n who (hear_data at n ink true m)

  other_asked : (at : ℕ) (n : Name) (lost : List Name) (m : MemberState) (o : Option Missing)
      → hear_request_by_entry at n lost (other m) o ≡ carry (hear_request_by_entry at n lost m o)
  other_asked at n lost m None = refl
  other_asked at n lost m (Some e) = carry_if (nat_lt at e.ignore) _ _ _ _ refl refl

  other_timer : (at : ℕ) (n : Name) (who : ℕ) (width : Option ℕ) (m : MemberState) (o : Option Repairing)
      → hear_request_by_timer at n who width (other m) o ≡ carry (hear_request_by_timer at n who width m o)
  other_timer at n who width m None = refl
  other_timer at n who width m (Some r) =
      ap (λ (k : MemberState). quietly k Busy [])
      (other_if (takes_over m.fixed width r)
      (record m { repairs = put name_cmp n (record r { requester = who; width = width }) m.repairs }) m _ _ refl refl)

  other_held : (at : ℕ) (n : Name) (who : ℕ) (width : Option ℕ) (m : MemberState)
      → hear_request_of_held at n who width (other m) ≡ carry (hear_request_of_held at n who width m)
  other_held at n who width m = carry_if (rests_for at m.fixed (rest_of n m) who width) _ _ _ _ refl
      (other_timer at n who width m (find name_cmp n m.repairs))

  other_request : (at : ℕ) (n : Name) (who : ℕ) (width : Option ℕ) (m : MemberState)
      → hear_request at n who width (other m) ≡ carry (hear_request at n who width m)
  unfolding hear_request
  other_request at n who width m =
      let p = page_of n in
      let s = meet m p (n.number + 1) in
      let k = with_progress p s m in
      let lose = lose_below at p (n.number + 1) (n.number + 1) s [] k in
      let lost = lost_below p (n.number + 1) s in
      carry_if (nat_lt n.number s.floor) _ _ _ _ refl
      (carry_if (has_entry n k.held) _ _ _ _ (other_held at n who width k)
      (carry_if (nat_le s.next n.number) _ _ _ _
      (ap (λ (l : MemberState). hear_request_by_entry at n lost l (find name_cmp n l.missing))
      (other_lose at p (n.number + 1) (n.number + 1) s [] k) ∙ other_asked at n lost lose (find name_cmp n lose.missing))
      (other_asked at n [] k (find name_cmp n k.missing))))

  other_entry : (at : ℕ) (d : Heard) (lost : List Name) (m : MemberState)
      → after_entry at d lost (other m) ≡ other (after_entry at d lost m)
  unfolding after_entry
  other_entry at d lost m =
      let s = meet m (page_heard d) (d.highest + 1) in
      other_if (nat_le s.next d.highest) _ _ _ _ (other_lose at (page_heard d) (d.highest + 1) (d.highest + 1) s lost m) refl

  other_session : (at : ℕ) (hs : List Heard) (m : MemberState) (lost : List Name)
      → hear_session at hs (other m) lost ≡ carry (hear_session at hs m lost)
  unfolding hear_session
  other_session at [] m lost = refl
  other_session at (d ∷ hs) m lost =
      ap (λ (k : MemberState). hear_session at hs k (lost ++ lost_by_entry d m)) (other_entry at d lost m)
      ∙ other_session at hs (after_entry at d lost m) (lost ++ lost_by_entry d m)

  other_hear : (at who : ℕ) (b : Body) (m : MemberState) → scope_of b ≡ None
      → hear_body at who b (other m) ≡ carry (hear_body at who b m)
  other_hear at who (Drawop n ink) m e = other_data at n ink false m
  other_hear at who (Repair n ink None) m e = other_repair at n ink who m
  other_hear at who (Repair n ink (Some l)) m e = cc
  other_hear at who (Request n scope) m e = other_request at n who scope m
  other_hear at who (Session hs) m e = other_session at hs m []

  other_asking : (at : ℕ) (n : Name) (m : MemberState) (o : Option Missing) → m.fixed.scope ≡ 0
      → expire_request_by_entry at n (other m) o ≡ carry (expire_request_by_entry at n m o)
  other_asking at n m None h = refl
  other_asking at n m (Some e) h =
      ap (λ q. send_body (back_off at n e (with_request_first e (other m))) (Request n q))
      (no_scope (other m).fixed e.backoffs h ∙ sym (no_scope m.fixed e.backoffs h))

  -- the repair of a timer whose request had no scope
  abbrev answered : ℕ → Name → Repairing → Option Local → MemberState → Reaction
  answered at n r local m = send_body (with_own_timer_ended at n r (mark_after 0 local) m)
      (Repair n (unwrap_or (find name_cmp n m.held) 0) local)

  other_answered : (at : ℕ) (n : Name) (r : Repairing) (m : MemberState) → answered at n r None (other m) ≡ carry (answered at n r None m)
  other_answered at n r m =
      ap (λ (k : MemberState).
      let rested = with_rest at n m.fixed.member None k in
      send_body (record rested { repairs = without n rested.repairs }) (Repair n (unwrap_or (find name_cmp n m.held) 0) None))
      (other_if (is_second_step m.fixed r) m (with_repair_first at r m) _ _ refl refl)

  other_answering : (at : ℕ) (n : Name) (m : MemberState) (o : Option Repairing) → ((r : Repairing) → o ≡ Some r → r.width ≡ None)
      → expire_repair_by_entry at n (other m) o ≡ carry (expire_repair_by_entry at n m o)
  other_answering at n m None h = refl
  other_answering at n m (Some r) h =
      let none = h r refl in
      ap (λ l. answered at n r l (other m)) (no_local (other m).fixed r none)
      ∙ other_answered at n r m
      ∙ ap (λ l. carry (answered at n r l m)) (sym (no_local m.fixed r none))

  other_drawing : (page ink : ℕ) (m : MemberState) → draw_operation page ink (other m) ≡ carry (draw_operation page ink m)
  unfolding draw_operation
  other_drawing page ink m =
      let s = own_progress m (record { source = m.fixed.member; page = page }) in
      carry_if (is_sender m.fixed.role && nat_lt s.next most_drawn) _ _ _ _ refl refl

  other_active : (m : MemberState) (at : ℕ) (cause : Cause) → IsWide m → BringsNoScope m.fixed cause
      → react_active (other m) at cause ≡ carry (react_active m at cause)
  unfolding expire_request expire_repair
  other_active m at Join wide brings = refl
  other_active m at (Arrival k) wide brings = other_hear at k.id.sender k.body m brings.0
  other_active m at (Ask n) wide brings = other_asking at n m (find name_cmp n m.missing) wide.scope
  other_active m at (Answer n) wide brings =
      other_answering at n m (find name_cmp n m.repairs) (λ r e. (wide.timers n r e).0)
  other_active m at (Draw page ink) wide brings = other_drawing page ink m
  other_active m at Report wide brings = refl

  other_listen_data : (n : Name) (ink : ℕ) (m : MemberState)
      → listen_data n ink (other m) ≡ carry (listen_data n ink m)
  other_listen_data n ink m = carry_if (has_entry n m.held) _ _ _ _ refl refl

  other_listen : (b : Body) (m : MemberState)
      → listen b (other m) ≡ carry (listen b m)
  other_listen (Drawop n ink) m = other_listen_data n ink m
  other_listen (Repair n ink local) m = other_listen_data n ink m
  other_listen (Request n scope) m = refl
  other_listen (Session hs) m = refl

  other_listener : (m : MemberState) (cause : Cause) → react_listener (other m) cause ≡ carry (react_listener m cause)
  other_listener m Join = refl
  other_listener m (Arrival k) = other_listen k.body m
  other_listener m (Ask n) = refl
  other_listener m (Answer n) = refl
  other_listener m (Draw page ink) = refl
  other_listener m Report = refl

pub widening_decides_nothing : WideningDecidesNothing
unfolding react
widening_decides_nothing m at cause widen tries steps wide brings =
    carry_if widen tries steps (is_listener m.fixed.role) (react_listener m cause)
    (telling_intervals cause (intervals_of m) (react_active m at cause)) _ _
    (other_listener widen tries steps m cause)
    (ap (telling_intervals cause (intervals_of m)) (other_active widen tries steps m at cause wide brings))
