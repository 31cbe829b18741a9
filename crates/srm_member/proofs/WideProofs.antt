-- Without scopes nothing is local.
use Rattle.std.proofs.Common.{◌≡◌, inl, inr, ℕ, zero, suc, ◌+◌, ◌-◌, ◌&&◌, ◌==◌}
use Rattle.std.proofs.Common.{Bool, true, false, cond, List, [], ◌∷◌, ◌++◌, refl, sym, ap, subst}
use Rattle.std.proofs.Common.{◌∙◌, Option, Some, None, is_some, nat_lt, nat_le}
use Rattle.std.proofs.lemmas.Option.{same_Some}
use Rattle.std.specs.FinMap.Entries.{put, find}
use Rattle.srm_net.specs.declared.packet.Name.{Name}
use Rattle.srm_net.specs.declared.packet.PageId.{PageId}
use Rattle.srm_net.specs.declared.packet.Heard.{Heard}
use Rattle.srm_net.specs.declared.packet.Body.{Body}
use Rattle.srm_net.specs.declared.packet.Body.TheVariants.{Drawop, Request, Repair, Session}
use Rattle.srm_net.specs.Limits.{most_drawn}
use Rattle.srm_net.specs.Names.{page_of, name_in, name_cmp}
use Rattle.srm_net.specs.Roles.{is_listener, is_sender}
use Rattle.srm_net.specs.Scopes.{scope_of}
use Rattle.srm_member.specs.declared.cause.Cause.{Cause}
use Rattle.srm_member.specs.declared.cause.Cause.TheVariants.{Join, Arrival, Ask, Answer, Draw, Report}
use Rattle.srm_member.specs.declared.fixed.Fixed.{Fixed}
use Rattle.srm_member.specs.declared.mark.RepairMark.{RepairMark}
use Rattle.srm_member.specs.declared.resting.Resting.{Resting}
use Rattle.srm_member.specs.LocalRecovery.{local_of, mark_after, is_second_step, takes_over, rests_for}
use Rattle.srm_member.specs.Record.{MemberState, Missing, Repairing, Progress}
use Rattle.srm_member.specs.React.{Reaction, without, has_entry, meet, with_progress, lose_one, lose_from, telling_intervals}
use Rattle.srm_member.specs.React.{with_losses_begun, lose_below, lost_below, hear_data, is_skip, rest_of, with_rest}
use Rattle.srm_member.specs.React.{with_repair_seen, after_repair, hear_repair, hear_request_by_entry, intervals_of}
use Rattle.srm_member.specs.React.{hear_request_by_timer, hear_request, page_heard, after_entry, lost_by_entry}
use Rattle.srm_member.specs.React.{hear_session, hear_body, expire_request_by_entry, expire_request, with_repair_first}
use Rattle.srm_member.specs.React.{with_answer_seen, with_own_timer_ended, expire_repair_by_entry, expire_repair, own_progress}
use Rattle.srm_member.specs.React.{draw_operation, react_active, react_listener, react, listen, listen_data}
use Rattle.srm_member.specs.LocalLaws.{IsWide, BringsNoScope, GoesToAll, MembersBeginWide, MembersStayWide}
use Rattle.srm_member.proofs.TableChanges.{names_apart, put_here, put_there, without_less, without_there}
use Rattle.srm_member.proofs.Widening.{no_scope, no_local}

pub members_begin_wide : MembersBeginWide
members_begin_wide f h = record { scope = h; marks = refl; timers = λ n r e. cc }

-- ---- what is the same

record Untouched (m k : MemberState) : Type 0 where
  fixed : k.fixed ≡ m.fixed
  marks : k.marks ≡ m.marks
  repairs : k.repairs ≡ m.repairs

untouched_if : (b : Bool) (m x y : MemberState) → Untouched m x → Untouched m y → Untouched m (cond b x y)
untouched_if true m x y h g = h
untouched_if false m x y h g = g

wide_same : (m k : MemberState) → Untouched m k → IsWide m → IsWide k
wide_same m k u w = record {
  scope = ap (λ (f : Fixed). f.scope) u.fixed ∙ w.scope;
  marks = u.marks ∙ w.marks;
  timers = λ n r e. subst (λ (f : Fixed). (r.width ≡ None) × (is_second_step f r ≡ false)) (sym u.fixed)
      (w.timers n r (sym (ap (find name_cmp n) u.repairs) ∙ e));
}

lost_from : (at : ℕ) (p : PageId) (count first : ℕ) (m : MemberState) → Untouched m (lose_from at p count first m)
unfolding lose_from
lost_from at p zero first m = record { fixed = refl; marks = refl; repairs = refl }
lost_from at p (suc count) first m =
    let r = lost_from at p count (suc first) (lose_one at (name_in p first) m) in
    record { fixed = r.fixed; marks = r.marks; repairs = r.repairs }

lost_below_same : (at : ℕ) (p : PageId) (n next : ℕ) (s : Progress) (lost : List Name) (m : MemberState)
    → Untouched m (lose_below at p n next s lost m)
unfolding lose_below
lost_below_same at p n next s lost m =
    let r = lost_from at p (n - s.next) s.next (with_losses_begun lost n s m) in
    record { fixed = r.fixed; marks = r.marks; repairs = r.repairs }

-- ---- a reaction that leaves nothing local

abbrev Wide : Reaction → Type 0
Wide r = IsWide r.state × GoesToAll r.answer.body

wide_if : (b : Bool) (x y : Reaction) → Wide x → Wide y → Wide (cond b x y)
wide_if true x y h g = h
wide_if false x y h g = g

wide_data : (at : ℕ) (n : Name) (ink : ℕ) (repaired : Bool) (m : MemberState) → IsWide m → Wide (hear_data at n ink repaired m)
unfolding hear_data
wide_data at n ink repaired m w =
    let s = meet m (page_of n) n.number in
    let kept = wide_same m m (record { fixed = refl; marks = refl; repairs = refl }) w in
    let l = lost_below_same at (page_of n) n.number (n.number + 1) s [] m in
    wide_if (nat_lt n.number s.floor) _ _ (record { scope = w.scope; marks = w.marks; timers = w.timers }, tt)
    (wide_if (nat_le s.next n.number) _ _ (
      (let k = wide_same m (lose_below at (page_of n) n.number (n.number + 1) s [] m) l w in
          record { scope = k.scope; marks = k.marks; timers = k.timers }),
      tt,
    )
    (wide_if (has_entry n m.missing) _ _
    (record { scope = w.scope; marks = w.marks; timers = w.timers }, tt)
    (record { scope = w.scope; marks = w.marks; timers = w.timers }, tt)))

-- a timer less
fewer_timers : (n k : Name) (r : Repairing) (es : List (Name × Repairing)) → find name_cmp k (without n es) ≡ Some r
    → find name_cmp k es ≡ Some r
fewer_timers n k r es e = sym (without_there k n es (without_less k n es (ap is_some e)).0) ∙ e

wide_rest : (at : ℕ) (n : Name) (who : ℕ) (m : MemberState) → IsWide m → IsWide (with_rest at n who None m)
wide_rest at n who m w = record { scope = w.scope; marks = ap (λ (ks : List (Name × RepairMark)). without n ks) w.marks; timers = w.timers }

wide_seen : (at : ℕ) (n : Name) (who : ℕ) (rest : Resting) (o : Option Repairing) (m : MemberState) → IsWide m
    → IsWide (with_repair_seen at n who None rest o m)
wide_seen at n who rest None m w = record { scope = w.scope; marks = w.marks; timers = w.timers }
wide_seen at n who rest (Some r) m w = record {
  scope = w.scope;
  marks = w.marks;
  timers = λ k x e. w.timers k x (fewer_timers n k x m.repairs e);
}

wide_repair : (at : ℕ) (n : Name) (ink who : ℕ) (m : MemberState) → IsWide m → Wide (hear_repair at n ink who None m)
wide_repair at n ink who m w =
    let r = hear_data at n ink true m in
    let g = wide_data at n ink true m w in
    wide_if (is_skip r.answer.told) r (record r { state = after_repair at n who None r.state }) g
    (wide_seen at n who (rest_of n r.state) (find name_cmp n r.state.repairs) _ (wide_rest at n who r.state g.0), g.1)

wide_asked : (at : ℕ) (n : Name) (lost : List Name) (m : MemberState) (o : Option Missing) → IsWide m
    → Wide (hear_request_by_entry at n lost m o)
wide_asked at n lost m None w = (w, tt)
wide_asked at n lost m (Some e) w = wide_if (nat_lt at e.ignore) _ _
    (record { scope = w.scope; marks = w.marks; timers = w.timers }, tt)
    (record { scope = w.scope; marks = w.marks; timers = w.timers }, tt)

-- a timer more, of a request of another member that went to all
one_more : (f : Fixed) (n : Name) (v : Repairing) (es : List (Name × Repairing))
    → ((k : Name) (r : Repairing) → find name_cmp k es ≡ Some r → (r.width ≡ None) × (is_second_step f r ≡ false))
    → v.width ≡ None → is_second_step f v ≡ false
    → (k : Name) (r : Repairing) → find name_cmp k (put name_cmp n v es) ≡ Some r → (r.width ≡ None) × (is_second_step f r ≡ false)
one_more f n v es were none other k r e = elim (names_apart k n) [
  | inl is ↦
      let same : v ≡ r = same_Some _ _ (sym (put_here n v es) ∙ ap (λ x. find name_cmp x (put name_cmp n v es)) (sym is) ∙ e) in
      subst (λ (x : Repairing). (x.width ≡ None) × (is_second_step f x ≡ false)) same (none, other)
  | inr ne ↦ were k r (sym (put_there k n v es ne) ∙ e)
]

wide_timer : (at : ℕ) (n : Name) (who : ℕ) (m : MemberState) (o : Option Repairing) → IsWide m → (who == m.fixed.member) ≡ false
    → Wide (hear_request_by_timer at n who None m o)
wide_timer at n who m None w other = (
  record { scope = w.scope; marks = w.marks; timers = one_more m.fixed n _ m.repairs w.timers refl other },
  tt,
)
wide_timer at n who m (Some r) w other = (
  choice (takes_over m.fixed None r) _ m
      (record { scope = w.scope; marks = w.marks; timers = one_more m.fixed n _ m.repairs w.timers refl other }) w,
  tt,
)
  where
    choice : (b : Bool) (x y : MemberState) → IsWide x → IsWide y → IsWide (cond b x y)
    choice true x y h g = h
    choice false x y h g = g

wide_request : (at : ℕ) (n : Name) (who : ℕ) (m : MemberState) → IsWide m → (who == m.fixed.member) ≡ false
    → Wide (hear_request at n who None m)
unfolding hear_request
wide_request at n who m w other =
    let p = page_of n in
    let s = meet m p (n.number + 1) in
    let k = with_progress p s m in
    let met : IsWide k = record { scope = w.scope; marks = w.marks; timers = w.timers } in
    let lose = lose_below at p (n.number + 1) (n.number + 1) s [] k in
    let lost = wide_same k lose (lost_below_same at p (n.number + 1) (n.number + 1) s [] k) met in
    wide_if (nat_lt n.number s.floor) _ _ (met, tt)
    (wide_if (has_entry n k.held) _ _
    (wide_if (rests_for at k.fixed (rest_of n k) who None) _ _ (met, tt) (wide_timer at n who k (find name_cmp n k.repairs) met other))
    (wide_if (nat_le s.next n.number) _ _
    (wide_asked at n (lost_below p (n.number + 1) s) lose (find name_cmp n lose.missing) lost)
    (wide_asked at n [] k (find name_cmp n k.missing) met)))

entry_same : (at : ℕ) (d : Heard) (lost : List Name) (m : MemberState) → Untouched m (after_entry at d lost m)
unfolding after_entry
entry_same at d lost m =
    let s = meet m (page_heard d) (d.highest + 1) in
    untouched_if (nat_le s.next d.highest) m _ _ (lost_below_same at (page_heard d) (d.highest + 1) (d.highest + 1) s lost m)
    (record { fixed = refl; marks = refl; repairs = refl })

wide_session : (at : ℕ) (hs : List Heard) (m : MemberState) (lost : List Name) → IsWide m → Wide (hear_session at hs m lost)
unfolding hear_session
wide_session at [] m lost w = (w, tt)
wide_session at (d ∷ hs) m lost w =
    wide_session at hs (after_entry at d lost m) (lost ++ lost_by_entry d m) (wide_same m _ (entry_same at d lost m) w)

wide_hear : (at who : ℕ) (b : Body) (m : MemberState) → IsWide m → scope_of b ≡ None → (who == m.fixed.member) ≡ false
    → Wide (hear_body at who b m)
wide_hear at who (Drawop n ink) m w e other = wide_data at n ink false m w
wide_hear at who (Repair n ink None) m w e other = wide_repair at n ink who m w
wide_hear at who (Repair n ink (Some l)) m w e other = cc
wide_hear at who (Request n None) m w e other = wide_request at n who m w other
wide_hear at who (Request n (Some g)) m w e other = cc
wide_hear at who (Session hs) m w e other = wide_session at hs m [] w

wide_asking : (at : ℕ) (n : Name) (m : MemberState) (o : Option Missing) → IsWide m → Wide (expire_request_by_entry at n m o)
wide_asking at n m None w = (w, tt)
wide_asking at n m (Some e) w =
    (record { scope = w.scope; marks = w.marks; timers = w.timers }, no_scope m.fixed e.backoffs w.scope)

-- the repair of a timer whose request had no scope
answered_wide : (at : ℕ) (n : Name) (r : Repairing) (m : MemberState) → IsWide m
    → IsWide (with_own_timer_ended at n r None m)
answered_wide at n r m w =
    let seen = with_answer_seen at r m in
    let u : Untouched m seen = untouched_if (is_second_step m.fixed r) m m (with_repair_first at r m)
    (record { fixed = refl; marks = refl; repairs = refl }) (record { fixed = refl; marks = refl; repairs = refl }) in
    let k = wide_rest at n m.fixed.member seen (wide_same m seen u w) in
    record {
      scope = k.scope;
      marks = k.marks;
      timers = λ x y e. k.timers x y (fewer_timers n x y seen.repairs e);
    }

wide_answering : (at : ℕ) (n : Name) (m : MemberState) (o : Option Repairing) → ((r : Repairing) → o ≡ Some r → r.width ≡ None)
    → IsWide m → Wide (expire_repair_by_entry at n m o)
wide_answering at n m None h w = (w, tt)
wide_answering at n m (Some r) h w =
    let none : local_of m.fixed r ≡ None = no_local m.fixed r (h r refl) in (
      subst (λ l. IsWide (with_own_timer_ended at n r (mark_after 0 l) m)) (sym none) (answered_wide at n r m w),
      (subst (λ l. scope_of (Repair n 0 l) ≡ None) (sym none) refl),
    )

wide_drawing : (page ink : ℕ) (m : MemberState) → IsWide m → Wide (draw_operation page ink m)
unfolding draw_operation
wide_drawing page ink m w =
    let s = own_progress m (record { source = m.fixed.member; page = page }) in
    wide_if (is_sender m.fixed.role && nat_lt s.next most_drawn) _ _
    (record { scope = w.scope; marks = w.marks; timers = w.timers }, refl) (w, tt)

wide_active : (m : MemberState) (at : ℕ) (cause : Cause) → IsWide m → BringsNoScope m.fixed cause → Wide (react_active m at cause)
unfolding expire_request expire_repair
wide_active m at Join w brings = (w, tt)
wide_active m at (Arrival k) w brings = wide_hear at k.id.sender k.body m w brings.0 brings.1
wide_active m at (Ask n) w brings = wide_asking at n m (find name_cmp n m.missing) w
wide_active m at (Answer n) w brings = wide_answering at n m (find name_cmp n m.repairs) (λ r e. (w.timers n r e).0) w
wide_active m at (Draw page ink) w brings = wide_drawing page ink m w
wide_active m at Report w brings = (w, refl)

wide_listen_data : (n : Name) (ink : ℕ) (m : MemberState) → IsWide m → Wide (listen_data n ink m)
wide_listen_data n ink m w =
    wide_if (has_entry n m.held) _ _ (w, tt) (record { scope = w.scope; marks = w.marks; timers = w.timers }, tt)

wide_listen : (b : Body) (m : MemberState) → IsWide m → Wide (listen b m)
wide_listen (Drawop n ink) m w = wide_listen_data n ink m w
wide_listen (Repair n ink local) m w = wide_listen_data n ink m w
wide_listen (Request n scope) m w = (w, tt)
wide_listen (Session hs) m w = (w, tt)

wide_listener : (m : MemberState) (cause : Cause) → IsWide m → Wide (react_listener m cause)
wide_listener m Join w = (w, tt)
wide_listener m (Arrival k) w = wide_listen k.body m w
wide_listener m (Ask n) w = (w, tt)
wide_listener m (Answer n) w = (w, tt)
wide_listener m (Draw page ink) w = (w, tt)
wide_listener m Report w = (w, tt)

wide_telling : (m : MemberState) (at : ℕ) (cause : Cause) → Wide (react_active m at cause)
    → Wide (telling_intervals cause (intervals_of m) (react_active m at cause))
wide_telling m at cause h = (record { scope = h.0.scope; marks = h.0.marks; timers = h.0.timers }, h.1)

pub members_stay_wide : MembersStayWide
unfolding react
members_stay_wide m at cause wide brings =
    wide_if (is_listener m.fixed.role) (react_listener m cause) (telling_intervals cause (intervals_of m) (react_active m at cause))
    (wide_listener m cause wide)
    (wide_telling m at cause (wide_active m at cause wide brings))
