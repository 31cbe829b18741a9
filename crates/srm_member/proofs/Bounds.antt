-- What a reaction does to the timers and to the fixed part.
use Rattle.std.proofs.Common.{◌≡◌, ℕ, zero, suc, ◌<◌, ◌≤◌, ◌+◌, max, Bool, true, false, cond, List, [], ◌∷◌, map, refl}
use Rattle.std.proofs.Common.{arith, Option, Some, None, nat_lt, nat_le, sym, subst, Less, Equal, Greater}
use Rattle.std.specs.FinMap.Entries.{put, find, by_order}
use Rattle.srm_net.specs.declared.packet.Name.{Name}
use Rattle.srm_net.specs.declared.packet.PageId.{PageId}
use Rattle.srm_net.specs.declared.packet.Heard.{Heard}
use Rattle.srm_net.specs.declared.packet.Body.{Body}
use Rattle.srm_net.specs.declared.rank.Rank.TheVariants.{Request, Repair}
use Rattle.srm_net.specs.Names.{page_of, name_in, name_cmp}
use Rattle.srm_member.specs.declared.cause.Cause.{Cause}
use Rattle.srm_member.specs.declared.fixed.Fixed.{Fixed}
use Rattle.srm_member.specs.declared.due.Due.{Due}
use Rattle.srm_member.specs.Timers.{timer_length}
use Rattle.srm_member.specs.Record.{MemberState, timers_of, Missing, Repairing, Progress}
use Rattle.srm_net.specs.Roles.{is_listener}
use Rattle.srm_member.specs.React.{Reaction, without, has_entry, request_length, with_progress, repair_length}
use Rattle.srm_member.specs.React.{meet, lose_one, lose_from, lose_below, hear_data, rest_of, with_mark, with_rest}
use Rattle.srm_member.specs.React.{with_repair_seen, begins_second_step}
use Rattle.srm_member.specs.React.{with_second_step, after_repair, hear_repair, is_skip}
use Rattle.srm_member.specs.React.{hear_request_by_timer, with_answer_seen, expire_repair_by_entry}
use Rattle.srm_member.specs.React.{hear_request_by_entry, hear_request_of_held, hear_request, after_entry, hear_session}
use Rattle.srm_member.specs.React.{hear_body, expire_request}
use Rattle.srm_member.specs.React.{expire_repair, draw_operation}
use Rattle.srm_member.specs.LocalRecovery.{serves, mark_from, mark_after, local_of, takes_over, is_second_step, rests_for}
use Rattle.srm_member.specs.declared.mark.RepairMark.{RepairMark}
use Rattle.srm_member.specs.declared.resting.Resting.{Resting}
use Rattle.srm_net.specs.declared.packet.Local.{Local}
use Rattle.srm_member.specs.React.{react_active}
use Rattle.srm_member.specs.React.{react_listener, react}
use Rattle.std.proofs.lemmas.List.Elements.{All-contains}
use Rattle.srm_net.proofs.TotalOrders.{tied_names}
use Rattle.srm_member.proofs.TableChanges.{found_contained}
use Rattle.srm_member.proofs.AllIn.{AllIn, AllIn-places, AllIn-append, AllIn-first, AllIn-second, AllIn-filter, AllIn-map}
use Rattle.srm_member.proofs.AllIn.{AllIn-unmap, AllIn-put}

at_least_one : (x : ℕ) → 1 ≤ max 1 x
at_least_one x = omega arith

pub draw_pos : (w : ℕ) (s : ℕ × ℕ) → 1 ≤ timer_length w s
draw_pos w s = at_least_one _

pub request_length_pos : (m : MemberState) (i : ℕ) (n : Name) → 1 ≤ request_length m i n
request_length_pos m i n = draw_pos _ _

-- an entry put in, of which the rest is known under its own name
put_in : (Q : (Name × Repairing) → Type 0) (n : Name) (v : Repairing) (es : List (Name × Repairing)) → Q (n, v) → AllIn Q es
    → AllIn Q (put name_cmp n v es)
put_in Q n v [] q h = (q, tt)
put_in Q n v (e ∷ es) q h =
    elim (name_cmp n e.0)
    as (λ o. name_cmp n e.0 ≡ o → AllIn Q (by_order o ((n, v) ∷ e ∷ es) ((e.0, v) ∷ es) (e ∷ put name_cmp n v es))) [
      | Less ↦ λ t. (q, h)
      | Equal ↦ λ t. (subst (λ x. Q (x, v)) (tied_names n e.0 t) q, h.1)
      | Greater ↦ λ t. (h.0, put_in Q n v es q h.1)
    ] refl

-- ---- what a reaction does to the tables of timers: it puts in later ones, and takes some out

module _ (f : Fixed) (A : List (Name × Missing) → Type 0) (B : List (Name × Repairing) → Type 0) (at : ℕ)
    (put_ask : (n : Name) (v : Missing) (es : List (Name × Missing)) → at < v.expiry → A es → A (put name_cmp n v es))
    (drop_ask : (n : Name) (es : List (Name × Missing)) → A es → A (without n es))
    (put_answer : (n : Name) (v : Repairing) (es : List (Name × Repairing)) → at < v.expiry → B es → B (put name_cmp n v es))
    (drop_answer : (n : Name) (es : List (Name × Repairing)) → B es → B (without n es))
    (hand_answer : (n : Name) (v w : Repairing) (es : List (Name × Repairing)) → find name_cmp n es ≡ Some v → w.expiry ≡ v.expiry
    → B es → B (put name_cmp n w es)) where
  pub record Kept (m : MemberState) : Type 0 where
    pub same : m.fixed ≡ f
    pub asks : A m.missing
    pub answers : B m.repairs

  kept_if : (b : Bool) (x y : Reaction) → Kept x.state → Kept y.state → Kept (cond b x y).state
  kept_if true x y h g = h
  kept_if false x y h g = g

  kept_lose_one : (n : Name) (m : MemberState) → Kept m → Kept (lose_one at n m)
  kept_lose_one n m k = grind arith

  kept_lose_from : (p : PageId) (count first : ℕ) (m : MemberState) → Kept m → Kept (lose_from at p count first m)
  unfolding lose_from
  kept_lose_from p zero first m k = k
  kept_lose_from p (suc count) first m k = kept_lose_from p count (suc first) (lose_one at (name_in p first) m)
      (kept_lose_one (name_in p first) m k)

  kept_progress : (p : PageId) (s : Progress) (m : MemberState) → Kept m → Kept (with_progress p s m)
  kept_progress p s m k = record { same = k.same; asks = k.asks; answers = k.answers }

  kept_lose : (p : PageId) (n next : ℕ) (s : Progress) (lost : List Name) (m : MemberState) → Kept m
      → Kept (lose_below at p n next s lost m)
  unfolding lose_below
  kept_lose p n next s lost m k = grind (arith, kept_lose_from)

  kept_got : (n : Name) (ink : ℕ) (repaired : Bool) (m : MemberState) → Kept m → Kept (hear_data at n ink repaired m).state
  unfolding hear_data
  kept_got n ink repaired m k = grind (arith, kept_lose)

  kept_asked : (n : Name) (lost : List Name) (m : MemberState) (o : Option Missing) → Kept m
      → Kept (hear_request_by_entry at n lost m o).state
  kept_asked n lost m o k = grind arith

  kept_choice : (b : Bool) (x y : MemberState) → Kept x → Kept y → Kept (cond b x y)
  kept_choice true x y h g = h
  kept_choice false x y h g = g

  kept_mark : (n : Name) (mark : Option RepairMark) (m : MemberState) → Kept m → Kept (with_mark n mark m)
  kept_mark n None m k = record { same = k.same; asks = k.asks; answers = k.answers }
  kept_mark n (Some x) m k = record { same = k.same; asks = k.asks; answers = k.answers }

  kept_rest : (n : Name) (who : ℕ) (mark : Option RepairMark) (m : MemberState) → Kept m → Kept (with_rest at n who mark m)
  kept_rest n who mark m k = kept_mark n mark _ (record { same = k.same; asks = k.asks; answers = k.answers })

  kept_seen : (n : Name) (who : ℕ) (local : Option Local) (rest : Resting) (o : Option Repairing) (m : MemberState) → Kept m
      → Kept (with_repair_seen at n who local rest o m)
  kept_seen n who local rest None m k = record { same = k.same; asks = k.asks; answers = k.answers }
  kept_seen n who local rest (Some r) m k = kept_choice (serves m.fixed (mark_from m.fixed who local) r.requester r.width) _ _
      (record { same = k.same; asks = k.asks; answers = drop_answer n m.repairs k.answers }) k

  kept_second : (n : Name) (rest : Resting) (local : Option Local) (m : MemberState) → Kept m
      → Kept (with_second_step at n rest local m)
  kept_second n rest None m k = k
  kept_second n rest (Some l) m k = kept_choice (begins_second_step at n rest l m) _ _
      (record {
        same = k.same;
        asks = k.asks;
        answers = put_answer n _ m.repairs (let one = length_pos m in omega arith) k.answers;
      }) k
    where
      length_pos : (m : MemberState) → 1 ≤ repair_length m 0
      length_pos m = draw_pos _ _

  kept_after : (n : Name) (who : ℕ) (local : Option Local) (m : MemberState) → Kept m → Kept (after_repair at n who local m)
  kept_after n who local m k = kept_second n (rest_of n m) local _
      (kept_seen n who local (rest_of n m) (find name_cmp n m.repairs) _ (kept_rest n who (mark_from m.fixed who local) m k))

  kept_repaired : (n : Name) (ink who : ℕ) (local : Option Local) (m : MemberState) → Kept m
      → Kept (hear_repair at n ink who local m).state
  kept_repaired n ink who local m k =
      let r = hear_data at n ink true m in
      let g = kept_got n ink true m k in
      kept_if (is_skip r.answer.told) r (record r { state = after_repair at n who local r.state }) g
      (kept_after n who local r.state g)

  kept_timer : (n : Name) (who : ℕ) (width : Option ℕ) (m : MemberState) (o : Option Repairing) → find name_cmp n m.repairs ≡ o → Kept m
      → Kept (hear_request_by_timer at n who width m o).state
  kept_timer n who width m None e k = grind arith
  kept_timer n who width m (Some r) e k = kept_choice (takes_over m.fixed width r) _ m
      (record { same = k.same; asks = k.asks; answers = hand_answer n r _ m.repairs e refl k.answers }) k

  kept_held : (n : Name) (who : ℕ) (width : Option ℕ) (m : MemberState) → Kept m → Kept (hear_request_of_held at n who width m).state
  kept_held n who width m k =
      kept_if (rests_for at m.fixed (rest_of n m) who width) _ _ k (kept_timer n who width m (find name_cmp n m.repairs) refl k)

  kept_requested : (n : Name) (who : ℕ) (width : Option ℕ) (m : MemberState) → Kept m → Kept (hear_request at n who width m).state
  unfolding hear_request
  kept_requested n who width m0 k0 =
      let s = meet m0 (page_of n) (n.number + 1) in
      let m = with_progress (page_of n) s m0 in
      let k : Kept m = kept_progress (page_of n) s m0 k0 in
      let l = lose_below at (page_of n) (n.number + 1) (n.number + 1) s [] m in
      kept_if (nat_lt n.number s.floor) _ _ k
      (kept_if (has_entry n m.held) _ _ (kept_held n who width m k)
      (kept_if (nat_le s.next n.number) _ _
      (kept_asked n _ l (find name_cmp n l.missing) (kept_lose (page_of n) (n.number + 1) (n.number + 1) s [] m k))
      (kept_asked n [] m (find name_cmp n m.missing) k)))

  kept_entry : (h : Heard) (lost : List Name) (m : MemberState) → Kept m → Kept (after_entry at h lost m)
  unfolding after_entry
  kept_entry h lost m k = grind (arith, kept_lose)

  kept_told : (hs : List Heard) (m : MemberState) (lost : List Name) → Kept m → Kept (hear_session at hs m lost).state
  unfolding hear_session
  kept_told [] m lost k = k
  kept_told (h ∷ hs) m lost k = kept_told hs (after_entry at h lost m) _ (kept_entry h lost m k)

  kept_heard : (who : ℕ) (b : Body) (m : MemberState) → Kept m → Kept (hear_body at who b m).state
  kept_heard who b m k = grind (arith, kept_got, kept_repaired, kept_requested, kept_told)

  kept_drawing : (page ink : ℕ) (m : MemberState) → Kept m → Kept (draw_operation page ink m).state
  unfolding draw_operation
  kept_drawing page ink m k = grind arith

  kept_answering : (n : Name) (m : MemberState) (o : Option Repairing) → Kept m → Kept (expire_repair_by_entry at n m o).state
  kept_answering n m None k = k
  kept_answering n m (Some r) k =
      let seen : Kept (with_answer_seen at r m) = kept_choice (is_second_step m.fixed r) m _ k
      (record { same = k.same; asks = k.asks; answers = k.answers }) in
      let rested = kept_rest n m.fixed.member (mark_after 0 (local_of m.fixed r)) _ seen in
      record { same = rested.same; asks = rested.asks; answers = drop_answer n _ rested.answers }

  kept_active : (m : MemberState) (cause : Cause) → Kept m → Kept (react_active m at cause).state
  unfolding expire_request expire_repair
  kept_active m cause k = grind (arith, kept_heard, kept_answering, kept_drawing)

  kept_listener : (m : MemberState) (cause : Cause) → Kept m → Kept (react_listener m cause).state
  kept_listener m cause k = grind arith

  pub kept_state : (m : MemberState) (cause : Cause) → Kept m → Kept (react m at cause).state
  unfolding react
  kept_state m cause k = kept_if (is_listener m.fixed.role) _ _ (kept_listener m cause k) (kept_active m cause k)

-- ---- the timers that a reaction leaves are later ones, or were there

module _ (Q : Due → Type 0) (at : ℕ) (later : (d : Due) → at < d.time → Q d) where
  abbrev IsAsk : (Name × Missing) → Type 0
  IsAsk e = Q (record { time = e.1.expiry; rank = Request; name = e.0 })

  abbrev IsAnswer : (Name × Repairing) → Type 0
  IsAnswer e = Q (record { time = e.1.expiry; rank = Repair; name = e.0 })

  put_ask_in : (n : Name) (v : Missing) (es : List (Name × Missing)) → at < v.expiry → AllIn IsAsk es → AllIn IsAsk (put name_cmp n v es)
  put_ask_in n v es lt h = AllIn-put IsAsk name_cmp n v es (λ x. later _ lt) h

  put_answer_in : (n : Name) (v : Repairing) (es : List (Name × Repairing)) → at < v.expiry → AllIn IsAnswer es
      → AllIn IsAnswer (put name_cmp n v es)
  put_answer_in n v es lt h = AllIn-put IsAnswer name_cmp n v es (λ x. later _ lt) h

  found_in : (n : Name) (v : Repairing) (es : List (Name × Repairing)) → find name_cmp n es ≡ Some v → AllIn IsAnswer es
      → IsAnswer (n, v)
  found_in n v es e h = All-contains IsAnswer es (n, v) (AllIn-places IsAnswer es h) (found_contained es n v e)

  hand_answer_in : (n : Name) (v w : Repairing) (es : List (Name × Repairing)) → find name_cmp n es ≡ Some v → w.expiry ≡ v.expiry
      → AllIn IsAnswer es → AllIn IsAnswer (put name_cmp n w es)
  hand_answer_in n v w es e same h = put_in IsAnswer n w es
      (subst (λ t. Q (record { time = t; rank = Repair; name = n })) (sym same) (found_in n v es e h)) h

  pub kept_react : (m : MemberState) (cause : Cause) → AllIn Q (timers_of m) → AllIn Q (timers_of (react m at cause).state)
  kept_react m cause h =
      let k = kept_state m.fixed (AllIn IsAsk) (AllIn IsAnswer) at put_ask_in (λ n es g. AllIn-filter IsAsk _ es g) put_answer_in
      (λ n es g. AllIn-filter IsAnswer _ es g) hand_answer_in m cause (record {
        same = refl;
        asks = AllIn-unmap Q _ m.missing (AllIn-first Q _ _ h);
        answers = AllIn-unmap Q _ m.repairs
            (AllIn-second Q (map (λ e. record { time = e.1.expiry; rank = Request; name = e.0 }) m.missing) _ h);
      }) in
      AllIn-append Q _ _ (AllIn-map Q _ _ k.asks) (AllIn-map Q _ _ k.answers)
