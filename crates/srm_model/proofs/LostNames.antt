-- What a member loses in one answer, and the pages of which it tells: they are of members, and no name is lost twice.
use Rattle.std.proofs.Common.{◌≡◌, ℕ, zero, suc, ◌+◌, ◌-◌, ◌<◌, ◌≤◌, Bool, true, false, cond, List, [], ◌∷◌, ◌++◌, refl, sym, ap, ◌∙◌}
use Rattle.std.proofs.Common.{subst, inl, inr, arith, Ordering, Option, Some, None, nat_lt, nat_le}
use Rattle.std.specs.List.{Contains}
use Rattle.std.specs.FinMap.Entries.{put, find, by_order}
use Rattle.std.proofs.lemmas.List.Elements.{Contains-append_right, Contains-append_cases}
use Rattle.srm_net.specs.declared.packet.Name.{Name}
use Rattle.srm_net.specs.declared.packet.PageId.{PageId}
use Rattle.srm_net.specs.declared.packet.Heard.{Heard}
use Rattle.srm_net.specs.declared.packet.Body.{Body}
use Rattle.srm_net.specs.declared.packet.Local.{Local}
use Rattle.srm_net.specs.declared.packet.Body.TheVariants.{Drawop, Request, Repair, Session}
use Rattle.srm_net.specs.Names.{page_of, name_in, name_cmp, page_cmp}
use Rattle.srm_member.specs.declared.fixed.Fixed.{Fixed as FixedPart}
use Rattle.srm_member.specs.declared.cause.Cause.{Cause}
use Rattle.srm_member.specs.declared.cause.Cause.TheVariants.{Join, Arrival, Ask, Answer, Draw, Report}
use Rattle.srm_member.specs.declared.told.Told.{Told}
use Rattle.srm_member.specs.declared.told.Told.TheVariants.{Entered, Fresh, Fixed, Again, Skip, Hold, Busy, Plan, Rest, Heard as Informed}
use Rattle.srm_member.specs.declared.entries.Missing.{Missing}
use Rattle.srm_member.specs.declared.entries.Repairing.{Repairing}
use Rattle.srm_member.specs.Fit.{heard_of}
use Rattle.srm_member.specs.Record.{MemberState, Progress}
use Rattle.srm_net.specs.Roles.{is_listener}
use Rattle.srm_member.specs.React.{Reaction, quietly, has_entry, with_progress, meet, lose_one, lose_from, names_from, lose_below}
use Rattle.srm_member.specs.React.{lost_below, with_mending_seen, telling_intervals, intervals_of}
use Rattle.srm_member.specs.React.{with_held, with_mended, hear_data, hear_request_by_entry}
use Rattle.srm_member.specs.React.{hear_request_by_timer, hear_request_of_held, hear_request, with_repair_timer}
use Rattle.srm_member.specs.React.{after_repair, begins_second_step, hear_repair, is_skip, rest_of, with_own_timer_ended}
use Rattle.srm_member.specs.React.{with_repair_seen, with_rest, with_second_step, with_timer_taken_over}
use Rattle.srm_member.specs.LocalRecovery.{is_second_step, local_of, mark_after, mark_from, serves, takes_over, rests_for}
use Rattle.srm_member.specs.declared.mark.RepairMark.{RepairMark}
use Rattle.srm_member.specs.declared.resting.Resting.{Resting}
use Rattle.srm_member.specs.React.{page_heard, after_entry, lost_by_entry, hear_session, hear_body, expire_request_by_entry, expire_request}
use Rattle.srm_member.specs.React.{expire_repair_by_entry, expire_repair}
use Rattle.srm_member.specs.React.{draw_operation, react_active, react_listener}
use Rattle.srm_member.specs.React.{react}
use Rattle.srm_member.specs.declared.intervals.Intervals.{Intervals}
use Rattle.srm_member.proofs.AllIn.{AllIn, AllIn-append, AllIn-map}
use Rattle.srm_member.proofs.Changes.{Below, from_page, entry_effect}
use Rattle.srm_model.proofs.TraceRows.{contains_none}

-- ---- lists with no element twice

abbrev pub Apart : {A : Type 0} → List A → Type 0
Apart [] = Unit {0}
Apart (x ∷ xs) = (¬ Contains xs x) × Apart xs

apart_append : {A : Type 0} (xs ys : List A) → Apart xs → Apart ys → ((x : A) → Contains xs x → ¬ Contains ys x) → Apart (xs ++ ys)
apart_append [] ys h g none = g
apart_append (x ∷ xs) ys h g none = (
  λ c. elim (Contains-append_cases xs ys x c) [ inl a ↦ h.0 a | inr b ↦ none x (0, omega arith, refl) b ],
  apart_append xs ys h.1 g (λ y c. none y (Contains-append_right (x ∷ []) xs y c)),
)

-- what stands before an element of such a list is another
pub none_before : {A : Type 0} (front back : List A) (x : A) → Apart (front ++ x ∷ back) → ¬ Contains front x
none_before [] back x h c = contains_none x c
none_before (y ∷ front) back x h (zero, l, e) =
    h.0 (subst (Contains (front ++ x ∷ back)) (sym e) (Contains-append_right front (x ∷ back) x (0, omega arith, refl)))
none_before (y ∷ front) back x h (suc k, l, e) = none_before front back x h.1 (k, omega arith, e)

-- ---- pages and names of members

either_way : {A : Type 0} (Q : A → Type 0) (b : Bool) (x y : A) → Q x → Q y → Q (cond b x y)
either_way Q true x y h g = h
either_way Q false x y h g = g

any_order : {A : Type 0} (Q : A → Type 0) (r : Ordering) (a b c : A) → Q a → Q b → Q c → Q (by_order r a b c)
any_order Q r a b c h g f = grind arith

module _ (members : ℕ) where
  abbrev pub OfMembers : List Name → Type 0
  OfMembers ns = AllIn (λ (n : Name). n.source < members) ns

  abbrev pub PagesOf : List (PageId × Progress) → Type 0
  PagesOf es = AllIn (λ (e : PageId × Progress). e.0.source < members) es

  abbrev pub HeardOf : List Heard → Type 0
  HeardOf hs = AllIn (λ (h : Heard). h.source < members) hs

  -- the sources in a packet are members
  abbrev pub BodyOf : Body → Type 0
  BodyOf (Drawop n ink) = n.source < members
  BodyOf (Request n scope) = n.source < members
  BodyOf (Repair n ink local) = n.source < members
  BodyOf (Session hs) = HeardOf hs

  abbrev pub CauseOf : Cause → Type 0
  CauseOf (Arrival p) = BodyOf p.body
  CauseOf _ = Unit {0}

  -- those in a session message, if it is one
  abbrev pub SessionOf : Option Body → Type 0
  SessionOf (Some (Session hs)) = HeardOf hs
  SessionOf _ = Unit {0}

  -- what an answer leaves, loses and sends
  pub record Known (r : Reaction) : Type 0 where
    pub pages : PagesOf r.state.progress
    pub lost : OfMembers r.answer.lost
    pub apart : Apart r.answer.lost
    pub session : SessionOf r.answer.body

  pages_put : (p : PageId) (v : Progress) (es : List (PageId × Progress)) → p.source < members → PagesOf es → PagesOf (put page_cmp p v es)
  pages_put p v [] h g = (h, tt)
  pages_put p v (e ∷ es) h g = any_order PagesOf (page_cmp p e.0) _ _ _ (h, g) (g.0, g.1) (g.0, pages_put p v es h g.1)

  -- ---- losses

  lose_pages : (at : ℕ) (p : PageId) (count first : ℕ) (m : MemberState) → (lose_from at p count first m).progress ≡ m.progress
  unfolding lose_from
  lose_pages at p zero first m = refl
  lose_pages at p (suc count) first m = lose_pages at p count (suc first) (lose_one at (name_in p first) m)

  pages_below : (at : ℕ) (p : PageId) (n next : ℕ) (s : Progress) (lost : List Name) (m : MemberState) → p.source < members
      → PagesOf m.progress → PagesOf (lose_below at p n next s lost m).progress
  unfolding lose_below
  pages_below at p n next s lost m h g = grind (arith, pages_put, lose_pages)

  names_of : (p : PageId) (count first : ℕ) → p.source < members → OfMembers (names_from p count first)
  names_of p zero first h = tt
  names_of p (suc count) first h = (h, names_of p count (suc first) h)

  names_apart : (p : PageId) (count first : ℕ) → Apart (names_from p count first)
  names_apart p zero first = tt
  names_apart p (suc count) first = (
    λ c. (let f = from_page p count (suc first) (name_in p first) c in let le : suc first ≤ first = f.1 in omega arith),
    names_apart p count (suc first),
  )

  plain : (m : MemberState) (answer : Told) → PagesOf m.progress → Known (quietly m answer [])
  plain m answer g = record { pages = g; lost = tt; apart = tt; session = tt }

  losing : (m : MemberState) (answer : Told) (p : PageId) (n : ℕ) (s : Progress) → p.source < members → PagesOf m.progress
      → Known (quietly m answer (lost_below p n s))
  losing m answer p n s h g = grind (arith, names_of, names_apart)

  -- ---- packets

  got_known : (at : ℕ) (n : Name) (ink : ℕ) (repaired : Bool) (m : MemberState) → n.source < members → PagesOf m.progress
      → Known (hear_data at n ink repaired m)
  unfolding hear_data
  got_known at n ink repaired m h g =
      let p = page_of n in
      let s = meet m p n.number in
      let k = with_progress p s m in
      let met : PagesOf k.progress = pages_put p s m.progress h g in
      let lose = lose_below at p n.number (n.number + 1) s [] m in
      let lost : PagesOf lose.progress = pages_below at p n.number (n.number + 1) s [] m h g in
      either_way Known (nat_lt n.number s.floor) _ _ (plain k Skip met)
      (either_way Known (nat_le s.next n.number) _ _ (losing (with_held n ink lose) Fresh p n.number s h lost)
      (either_way Known (has_entry n m.missing) _ _
      (plain (with_mended n ink (with_progress p s (with_mending_seen at n repaired m))) Fixed met) (plain k Again met)))

  -- what a repair brings besides leaves pages as they are
  rest_pages : (at : ℕ) (n : Name) (who : ℕ) (mark : Option RepairMark) (m : MemberState) → PagesOf m.progress
      → PagesOf (with_rest at n who mark m).progress
  rest_pages at n who None m g = g
  rest_pages at n who (Some k) m g = g

  seen_pages : (at : ℕ) (n : Name) (who : ℕ) (local : Option Local) (rest : Resting) (o : Option Repairing) (m : MemberState)
      → PagesOf m.progress → PagesOf (with_repair_seen at n who local rest o m).progress
  seen_pages at n who local rest None m g = g
  seen_pages at n who local rest (Some r) m g = either_way (λ (k : MemberState). PagesOf k.progress)
      (serves m.fixed (mark_from m.fixed who local) r.requester r.width) _ m g g

  second_pages : (at : ℕ) (n : Name) (rest : Resting) (local : Option Local) (m : MemberState) → PagesOf m.progress
      → PagesOf (with_second_step at n rest local m).progress
  second_pages at n rest None m g = g
  second_pages at n rest (Some l) m g =
      either_way (λ (k : MemberState). PagesOf k.progress) (begins_second_step at n rest l m) _ m g g

  after_pages : (at : ℕ) (n : Name) (who : ℕ) (local : Option Local) (m : MemberState) → PagesOf m.progress
      → PagesOf (after_repair at n who local m).progress
  after_pages at n who local m g =
      let rested = with_rest at n who (mark_from m.fixed who local) m in
      let seen = with_repair_seen at n who local (rest_of n m) (find name_cmp n m.repairs) rested in
      second_pages at n (rest_of n m) local seen
      (seen_pages at n who local (rest_of n m) (find name_cmp n m.repairs) rested
      (rest_pages at n who (mark_from m.fixed who local) m g))

  rested_known : (at : ℕ) (n : Name) (who : ℕ) (local : Option Local) (r : Reaction) → Known r
      → Known (record r { state = after_repair at n who local r.state })
  rested_known at n who local r k = record {
    pages = after_pages at n who local r.state k.pages;
    lost = k.lost;
    apart = k.apart;
    session = k.session;
  }

  repair_known : (at : ℕ) (n : Name) (ink who : ℕ) (local : Option Local) (m : MemberState) → n.source < members
      → PagesOf m.progress → Known (hear_repair at n ink who local m)
  repair_known at n ink who local m h g =
      let r = hear_data at n ink true m in
      let k = got_known at n ink true m h g in
      either_way Known (is_skip r.answer.told) r _ k (rested_known at n who local r k)

  asked_known : (at : ℕ) (n : Name) (lost : List Name) (m : MemberState) (o : Option Missing) → Known (quietly m Hold lost)
      → Known (hear_request_by_entry at n lost m o)
  asked_known at n lost m o k = grind arith

  taken_over_pages : (n : Name) (who : ℕ) (width : Option ℕ) (r : Repairing) (m : MemberState) → PagesOf m.progress
      → PagesOf (with_timer_taken_over n who width r m).progress
  taken_over_pages n who width r m g = either_way (λ (k : MemberState). PagesOf k.progress) (takes_over m.fixed width r) _ m g g

  timer_known : (at : ℕ) (n : Name) (who : ℕ) (width : Option ℕ) (m : MemberState) (o : Option Repairing) → PagesOf m.progress
      → Known (hear_request_by_timer at n who width m o)
  timer_known at n who width m None g = plain (with_repair_timer at n who width m) Plan g
  timer_known at n who width m (Some r) g = plain (with_timer_taken_over n who width r m) Busy (taken_over_pages n who width r m g)

  held_known : (at : ℕ) (n : Name) (who : ℕ) (width : Option ℕ) (m : MemberState) → PagesOf m.progress
      → Known (hear_request_of_held at n who width m)
  held_known at n who width m g = either_way Known (rests_for at m.fixed (rest_of n m) who width) _ _ (plain m Rest g)
      (timer_known at n who width m (find name_cmp n m.repairs) g)

  request_known : (at : ℕ) (n : Name) (who : ℕ) (width : Option ℕ) (m : MemberState) → n.source < members → PagesOf m.progress
      → Known (hear_request at n who width m)
  unfolding hear_request
  request_known at n who width m h g =
      let p = page_of n in
      let s = meet m p (n.number + 1) in
      let k = with_progress p s m in
      let met : PagesOf k.progress = pages_put p s m.progress h g in
      let lose = lose_below at p (n.number + 1) (n.number + 1) s [] k in
      let lost : PagesOf lose.progress = pages_below at p (n.number + 1) (n.number + 1) s [] k h met in
      either_way Known (nat_lt n.number s.floor) _ _ (plain k Skip met)
      (either_way Known (has_entry n k.held) _ _ (held_known at n who width k met)
      (either_way Known (nat_le s.next n.number) _ _
      (asked_known at n (lost_below p (n.number + 1) s) lose (find name_cmp n lose.missing) (losing lose Hold p (n.number + 1) s h lost))
      (asked_known at n [] k (find name_cmp n k.missing) (plain k Hold met))))

  entry_pages : (at : ℕ) (h : Heard) (lost : List Name) (m : MemberState) → h.source < members → PagesOf m.progress
      → PagesOf (after_entry at h lost m).progress
  unfolding after_entry
  entry_pages at h lost m lt g = grind (arith, pages_below, pages_put)

  -- names of later entries are new, and so others than those lost by the entries before
  informed_known : (at : ℕ) (hs : List Heard) (m : MemberState) (lost : List Name) → is_listener m.fixed.role ≡ false → HeardOf hs
      → ((n : Name) → Contains lost n → Below n m) → Known (quietly m Informed lost) → Known (hear_session at hs m lost)
  unfolding hear_session
  informed_known at [] m lost no_listener of_hs below k = k
  informed_known at (h ∷ hs) m lost no_listener of_hs below k =
      let g = entry_effect at h lost m in
      let p = page_heard h in
      let s = meet m p (h.highest + 1) in
      let more = lost_by_entry h m in
      informed_known at hs (after_entry at h lost m) (lost ++ more)
      (ap (λ (f : FixedPart). is_listener f.role) g.fixed ∙ no_listener) of_hs.1
      (λ n c. elim (Contains-append_cases lost more n c) [ inl x ↦ g.below n (below n x) | inr x ↦ g.heard n x ])
      (record {
        pages = entry_pages at h lost m of_hs.0 k.pages;
        lost = AllIn-append (λ (n : Name). n.source < members) lost more k.lost (names_of p ((h.highest + 1) - s.next) s.next of_hs.0);
        apart = apart_append lost more k.apart (names_apart p ((h.highest + 1) - s.next) s.next) (λ n c x. g.new n x (below n c));
        session = tt;
      })

  hear_known : (at who : ℕ) (b : Body) (m : MemberState) → is_listener m.fixed.role ≡ false → BodyOf b → PagesOf m.progress
      → Known (hear_body at who b m)
  hear_known at who (Drawop n ink) m no_listener h g = got_known at n ink false m h g
  hear_known at who (Repair n ink local) m no_listener h g = repair_known at n ink who local m h g
  hear_known at who (Request n scope) m no_listener h g = request_known at n who scope m h g
  hear_known at who (Session hs) m no_listener h g =
      informed_known at hs m [] no_listener h (λ n c. absurd (contains_none n c)) (plain m Informed g)

  -- ---- timers, draws and reports

  asking_known : (at : ℕ) (n : Name) (m : MemberState) (o : Option Missing) → PagesOf m.progress → Known (expire_request_by_entry at n m o)
  asking_known at n m None g = plain m Skip g
  asking_known at n m (Some e) g = record { pages = g; lost = tt; apart = tt; session = tt }

  ended_pages : (at : ℕ) (n : Name) (r : Repairing) (mark : Option RepairMark) (m : MemberState) → PagesOf m.progress
      → PagesOf (with_own_timer_ended at n r mark m).progress
  ended_pages at n r None m g = either_way (λ (k : MemberState). PagesOf k.progress) (is_second_step m.fixed r) m _ g g
  ended_pages at n r (Some x) m g = either_way (λ (k : MemberState). PagesOf k.progress) (is_second_step m.fixed r) m _ g g

  answering_known : (at : ℕ) (n : Name) (m : MemberState) (o : Option Repairing) → PagesOf m.progress
      → Known (expire_repair_by_entry at n m o)
  answering_known at n m None g = plain m Skip g
  answering_known at n m (Some r) g = record {
    pages = ended_pages at n r (mark_after 0 (local_of m.fixed r)) m g;
    lost = tt;
    apart = tt;
    session = tt;
  }

  drawing_known : (page ink : ℕ) (m : MemberState) → m.fixed.member < members → PagesOf m.progress → Known (draw_operation page ink m)
  unfolding draw_operation
  drawing_known page ink m h g = grind (arith, pages_put)

  active_known : (m : MemberState) (at : ℕ) (cause : Cause) → is_listener m.fixed.role ≡ false → m.fixed.member < members
      → CauseOf cause → PagesOf m.progress → Known (react_active m at cause)
  unfolding expire_request expire_repair
  active_known m at Join no_listener h c g = plain m Entered g
  active_known m at (Arrival p) no_listener h c g = hear_known at p.id.sender p.body m no_listener c g
  active_known m at (Ask n) no_listener h c g = asking_known at n m (find name_cmp n m.missing) g
  active_known m at (Answer n) no_listener h c g = answering_known at n m (find name_cmp n m.repairs) g
  active_known m at (Draw page ink) no_listener h c g = drawing_known page ink m h g
  active_known m at Report no_listener h c g = record {
    pages = g;
    lost = tt;
    apart = tt;
    session = AllIn-map (λ (x : Heard). x.source < members) (λ e. heard_of e.0 e.1) m.progress g;
  }

  -- ---- listeners

  listener_known : (m : MemberState) (cause : Cause) → PagesOf m.progress → Known (react_listener m cause)
  listener_known m cause g = grind arith

  -- what it tells of intervals has no part in that
  told_known : (o : Option Intervals) (r : Reaction) → Known r → Known (record r { answer = record r.answer { adapted = o } })
  told_known o r k = record { pages = k.pages; lost = k.lost; apart = k.apart; session = k.session }

  by_role : (m : MemberState) (at : ℕ) (cause : Cause) (b : Bool) → is_listener m.fixed.role ≡ b → m.fixed.member < members
      → CauseOf cause → PagesOf m.progress
      → Known (cond b (react_listener m cause) (telling_intervals cause (intervals_of m) (react_active m at cause)))
  by_role m at cause true q h c g = listener_known m cause g
  by_role m at cause false q h c g = told_known _ (react_active m at cause) (active_known m at cause q h c g)

  -- what a member answers, where it and all that it heard of are members
  pub known : (m : MemberState) (at : ℕ) (cause : Cause) → m.fixed.member < members → CauseOf cause → PagesOf m.progress
      → Known (react m at cause)
  unfolding react
  known m at cause h c g = by_role m at cause (is_listener m.fixed.role) refl h c g
