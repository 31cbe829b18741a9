-- What an event changes of the names that a member holds and lacks.
use Rattle.std.proofs.Common.{◌≡◌, ℕ, zero, suc, ◌<◌, ◌≤◌, ◌+◌, ◌-◌, Bool, true, false, cond, ◌&&◌, T, List, [], ◌∷◌, ◌++◌, refl}
use Rattle.std.proofs.Common.{sym, ap, ◌∙◌, subst, ◌≢◌, ◌⊎◌, inl, inr, arith, Option, Some, None, is_some, unwrap_or, nat_lt, nat_le}
use Rattle.std.proofs.Common.{append-nil, ◌==◌}
use Rattle.std.specs.List.{Contains}
use Rattle.std.proofs.lemmas.List.Elements.{Contains-append_left, Contains-append_right, Contains-append_cases}
use Rattle.std.specs.FinMap.Entries.{put, find, is_sorted}
use Rattle.std.proofs.lemmas.Bool.{and_parts}
use Rattle.std.proofs.lemmas.Option.{same_Some}
use Rattle.srm_net.specs.declared.packet.Name.{Name}
use Rattle.srm_net.specs.declared.packet.PageId.{PageId}
use Rattle.srm_net.specs.declared.packet.Heard.{Heard}
use Rattle.srm_net.specs.declared.packet.Body.{Body}
use Rattle.srm_net.specs.declared.packet.Body.TheVariants.{Drawop, Request, Repair, Session}
use Rattle.srm_net.specs.Names.{page_of, name_in, name_cmp, page_cmp}
use Rattle.srm_member.specs.declared.cause.Cause.{Cause}
use Rattle.srm_member.specs.declared.cause.Cause.TheVariants.{Arrival, Draw}
use Rattle.srm_member.specs.declared.told.Told.{Told}
use Rattle.srm_member.specs.declared.told.Told.TheVariants.{Fresh, Fixed, Skip, Sent}
use Rattle.srm_member.specs.Record.{MemberState, Missing, Repairing, Progress}
use Rattle.srm_net.specs.Roles.{is_sender, is_listener}
use Rattle.srm_member.specs.React.{Reaction, quietly, send_body, without, has_entry, back_off, repair_length, telling_intervals}
use Rattle.srm_member.specs.React.{adapted_at, intervals_of, after_repair_delay, with_held}
use Rattle.srm_member.specs.declared.intervals.Intervals.{Intervals}
use Rattle.srm_member.specs.React.{with_losses_begun, with_repair_seen, rest_of}
use Rattle.srm_member.specs.React.{with_request_first, with_answer_seen, with_own_timer_ended, with_timer_taken_over}
use Rattle.srm_member.specs.React.{hear_request_by_timer, begins_second_step, with_timer_set, with_second_step}
use Rattle.srm_member.specs.React.{after_repair}
use Rattle.srm_member.specs.LocalRecovery.{local_of, mark_after, mark_from, serves, takes_over, are_two, rests_for}
use Rattle.srm_member.specs.LocalRecovery.{is_second_step}
use Rattle.srm_member.specs.declared.mark.RepairMark.{RepairMark}
use Rattle.srm_member.specs.declared.resting.Resting.{Resting}
use Rattle.srm_net.specs.declared.packet.Local.{Local}
use Rattle.srm_member.specs.React.{begins_at, with_progress, meet, lose_one, lose_from, names_from, lose_below, lost_below}
use Rattle.srm_member.specs.React.{hear_data, with_rest, hear_repair, with_repair_timer, hear_request_by_entry}
use Rattle.srm_member.specs.React.{hear_request_of_held, hear_request, page_heard}
use Rattle.srm_member.specs.React.{after_entry, lost_by_entry, hear_session, hear_body, expire_request_by_entry, expire_request}
use Rattle.srm_member.specs.React.{expire_repair_by_entry, expire_repair}
use Rattle.srm_member.specs.React.{own_progress, draw_operation, is_skip, react_active}
use Rattle.srm_member.specs.React.{react_listener}
use Rattle.srm_member.specs.React.{react}
use Rattle.srm_member.proofs.TableChanges.{Has, has_put, has_more, has_cases, without_less}
use Rattle.srm_member.proofs.TableChanges.{sorted_put, page_here, page_cases}
use Rattle.srm_net.specs.Limits.{most_drawn}
use Rattle.srm_member.specs.Intervals.{hear_duplicate}

-- ---- changes that hold nothing new

-- a member has heard of a name: its number is below the next one of its page
abbrev pub Below : Name → MemberState → Type 0
Below n m = (s : Progress) × (find page_cmp (page_of n) m.progress ≡ Some s) × (n.number < s.next)

-- from one state to another these names are lost, which it had not heard of; other names that it lacks, and those that
-- it holds, are the same, and repair timers are set for names that it holds
pub record Grows (lost : List Name) (m k : MemberState) : Type 0 where
  pub fixed : k.fixed ≡ m.fixed
  pub held : k.held ≡ m.held
  pub below : (n : Name) → Below n m → Below n k
  pub new : (n : Name) → Contains lost n → ¬ Below n m
  pub heard : (n : Name) → Contains lost n → Below n k
  pub lacks : (n : Name) → Has n k.missing → Has n m.missing ⊎ Contains lost n
  pub still : (n : Name) → Has n m.missing → Has n k.missing
  pub lacking : (n : Name) → Contains lost n → Has n k.missing
  pub plans : (n : Name) → Has n k.repairs → Has n m.repairs ⊎ Has n m.held
  pub sorted : T (is_sorted name_cmp m.missing) → T (is_sorted name_cmp k.missing)

no_name : {A : Type 0} (n : Name) → Contains [] n → A
no_name n h = absurd (let l = h.1 in omega arith)

pub grows_same : (m k : MemberState) → k.fixed ≡ m.fixed → k.held ≡ m.held → k.progress ≡ m.progress → k.missing ≡ m.missing → k.repairs
    ≡ m.repairs → Grows [] m k
grows_same m k f h s l r = grind arith

pub grows_on : (a b : List Name) (m k l : MemberState) → Grows a m k → Grows b k l → Grows (a ++ b) m l
grows_on a b m k l g h = record {
  fixed = h.fixed ∙ g.fixed;
  held = h.held ∙ g.held;
  below = λ n c. h.below n (g.below n c);
  new = λ n c. elim (Contains-append_cases a b n c) [ inl x ↦ g.new n x | inr x ↦ λ y. h.new n x (g.below n y) ];
  heard = λ n c. elim (Contains-append_cases a b n c) [ inl x ↦ h.below n (g.heard n x) | inr x ↦ h.heard n x ];
  lacks = λ n c. elim (h.lacks n c) [
    | inl x ↦ elim (g.lacks n x) [ inl y ↦ inl y | inr y ↦ inr (Contains-append_left a b n y) ]
    | inr x ↦ inr (Contains-append_right a b n x)
  ];
  still = λ n c. h.still n (g.still n c);
  lacking = λ n c. elim (Contains-append_cases a b n c) [ inl x ↦ h.still n (g.lacking n x) | inr x ↦ h.lacking n x ];
  plans = λ n c. elim (h.plans n c) [ inl x ↦ g.plans n x | inr x ↦ inr (subst (Has n) g.held x) ];
  sorted = λ c. h.sorted (g.sorted c);
}

-- the same with the names of the first alone
pub grows_then : (a : List Name) (m k l : MemberState) → Grows a m k → Grows [] k l → Grows a m l
grows_then a m k l g h = subst (λ x. Grows x m l) (append-nil a) (grows_on a [] m k l g h)

-- ---- progress

-- the entry met is that of the page, or begins no later than here
met : (m : MemberState) (p : PageId) (x : ℕ) → (find page_cmp p m.progress ≡ Some (meet m p x))
    ⊎ ((find page_cmp p m.progress ≡ None) × ((meet m p x).next ≤ x))
met m p x = grind arith

none_some : {A : Type 0} (o : Option A) (a : A) → o ≡ None → o ≡ Some a → ⊥
none_some o a e f = let x : None ≡ Some a = sym e ∙ f in cc

-- progress whose next number is no lower than that of the page met
below_put : (m : MemberState) (p : PageId) (x : ℕ) (s : Progress) → (meet m p x).next ≤ s.next → (n : Name) → Below n m
    → Below n (with_progress p s m)
below_put m p x s le n b = elim (page_cases (page_of n) p s m.progress) [
  | inl same ↦
      let old : (meet m p x).next ≡ b.0.next = (elim (met m p x) [
        | inl e ↦ ap (λ (t : Progress). t.next) (same_Some _ _ (sym e ∙ ap (λ q. find page_cmp q m.progress) (sym same) ∙ b.1))
        | inr e ↦ absurd (none_some (find page_cmp p m.progress) b.0 e.0 (ap (λ q. find page_cmp q m.progress) (sym same) ∙ b.1))
      ]) in
      let lt = b.2 in
      (s, ap (λ q. find page_cmp q (put page_cmp p s m.progress)) same ∙ page_here p s m.progress, omega arith)
  | inr other ↦ (b.0, other ∙ b.1, b.2)
]

grows_progress : (m : MemberState) (p : PageId) (x : ℕ) (s : Progress) → (meet m p x).next ≤ s.next → Grows [] m (with_progress p s m)
grows_progress m p x s le = record {
  fixed = refl;
  held = refl;
  below = below_put m p x s le;
  new = λ n c. no_name n c;
  heard = λ n c. no_name n c;
  lacks = λ n c. inl c;
  still = λ n c. c;
  lacking = λ n c. no_name n c;
  plans = λ n c. inl c;
  sorted = λ c. c;
}

pub grows_meet : (m : MemberState) (p : PageId) (x : ℕ) → Grows [] m (with_progress p (meet m p x) m)
grows_meet m p x = grows_progress m p x (meet m p x) (omega arith)

-- a number that is not below the next one of the entry met was not heard of
not_heard : (m : MemberState) (n : Name) (x : ℕ) → (meet m (page_of n) x).next ≤ n.number → ¬ Below n m
not_heard m n x le b = grind arith

-- ---- losses

-- what is the same after losses
record SameBut (m k : MemberState) : Type 0 where
  fixed : k.fixed ≡ m.fixed
  held : k.held ≡ m.held
  progress : k.progress ≡ m.progress
  repairs : k.repairs ≡ m.repairs
  still : (n : Name) → Has n m.missing → Has n k.missing
  sorted : T (is_sorted name_cmp m.missing) → T (is_sorted name_cmp k.missing)

same_but : (at : ℕ) (p : PageId) (count first : ℕ) (m : MemberState) → SameBut m (lose_from at p count first m)
unfolding lose_from
same_but at p zero first m = record { fixed = refl; held = refl; progress = refl; repairs = refl; still = λ n h. h; sorted = λ h. h }
same_but at p (suc count) first m =
    let r = same_but at p count (suc first) (lose_one at (name_in p first) m) in
    record {
      fixed = r.fixed;
      held = r.held;
      progress = r.progress;
      repairs = r.repairs;
      still = λ n h. r.still n (has_more n (name_in p first) _ m.missing h);
      sorted = λ h. r.sorted (sorted_put (name_in p first) _ m.missing h);
    }

lost_missing : (at : ℕ) (p : PageId) (count first : ℕ) (m : MemberState) (n : Name) → Contains (names_from p count first) n
    → Has n (lose_from at p count first m).missing
unfolding lose_from
lost_missing at p zero first m n c = no_name n c
lost_missing at p (suc count) first m n c = elim (Contains-append_cases (name_in p first ∷ []) (names_from p count (suc first)) n c) [
  | inl h ↦ (same_but at p count (suc first) (lose_one at (name_in p first) m)).still n
      (subst (λ x. Has x (lose_one at (name_in p first) m).missing) (one h) (has_put (name_in p first) _ m.missing))
  | inr h ↦ lost_missing at p count (suc first) (lose_one at (name_in p first) m) n h
]
  where
    one : Contains (name_in p first ∷ []) n → name_in p first ≡ n
    one (zero, l, e) = e
    one (suc k, l, e) = absurd (let g : suc k < 1 = l in omega arith)

missing_lost : (at : ℕ) (p : PageId) (count first : ℕ) (m : MemberState) (n : Name) → Has n (lose_from at p count first m).missing
    → Has n m.missing ⊎ Contains (names_from p count first) n
unfolding lose_from
missing_lost at p zero first m n h = inl h
missing_lost at p (suc count) first m n h = elim (missing_lost at p count (suc first) (lose_one at (name_in p first) m) n h) [
  | inl g ↦ elim (has_cases n (name_in p first) _ m.missing g) [ inl e ↦ inr (0, omega arith, sym e) | inr g2 ↦ inl g2 ]
  | inr g ↦ inr (Contains-append_right (name_in p first ∷ []) (names_from p count (suc first)) n g)
]

-- the names lost are of this page, with numbers from the first on
pub from_page : (p : PageId) (count first : ℕ) (n : Name) → Contains (names_from p count first) n → (page_of n ≡ p) × (first ≤ n.number)
    × (n.number < first + count)
from_page p zero first n c = no_name n c
from_page p (suc count) first n (zero, l, e) =
    let number : first ≡ n.number = ap (λ (x : Name). x.number) e in
    (sym (ap page_of e), omega arith, omega arith)
from_page p (suc count) first n (suc k, l, e) =
    let r = from_page p count (suc first) n (k, omega arith, e) in
    let a = r.1 in
    let b = r.2 in
    (r.0, omega arith, omega arith)

grows_lose : (at : ℕ) (p : PageId) (x end next : ℕ) (lost : List Name) (m : MemberState) → end ≤ next → (meet m p x).next ≤ next
    → Grows (lost_below p end (meet m p x)) m (lose_below at p end next (meet m p x) lost m)
unfolding lose_below
grows_lose at p x end next lost m low high =
    let s = meet m p x in
    let t : Progress = record { floor = s.floor; next = next } in
    let count = end - s.next in
    let begun = with_losses_begun lost end s m in
    let k = lose_from at p count s.next begun in
    let same = same_but at p count s.next begun in
    record {
      fixed = same.fixed;
      held = same.held;
      below = λ n b. (let r = below_put m p x t high n b in
          (r.0, ap (λ es. find page_cmp (page_of n) (put page_cmp p t es)) same.progress ∙ r.1, r.2));
      new = λ n c. (let f = from_page p count s.next n c in
          let le : (meet m (page_of n) x).next ≤ n.number = subst (λ q. (meet m q x).next ≤ n.number) (sym f.0) f.1 in
          not_heard m n x le);
      heard = λ n c. (let f = from_page p count s.next n c in
          let a = f.1 in
          let b = f.2 in
          (t, ap (λ q. find page_cmp q (put page_cmp p t k.progress)) f.0 ∙ page_here p t k.progress, omega arith));
      lacks = λ n h. missing_lost at p count s.next begun n h;
      still = same.still;
      lacking = λ n c. lost_missing at p count s.next begun n c;
      plans = λ n h. inl (subst (Has n) same.repairs h);
      sorted = same.sorted;
    }

-- ---- timers

grows_back_off : (at : ℕ) (n : Name) (e : Missing) (m : MemberState) → Has n m.missing → Grows [] m (back_off at n e m)
grows_back_off at n e m h = grind (arith, has_cases, has_more, sorted_put)

-- a change of repair timers alone, which sets them for names that it holds
grows_timers : (m k : MemberState) → k.fixed ≡ m.fixed → k.held ≡ m.held → k.progress ≡ m.progress → k.missing ≡ m.missing
    → ((n : Name) → Has n k.repairs → Has n m.repairs ⊎ Has n m.held) → Grows [] m k
grows_timers m k f h s l p = grind arith

grows_planning : (at : ℕ) (n : Name) (who : ℕ) (width : Option ℕ) (m : MemberState) → Has n m.held
    → Grows [] m (with_repair_timer at n who width m)
grows_planning at n who width m h = grows_timers m (with_repair_timer at n who width m) refl refl refl refl
    (λ k g. elim (has_cases k n _ m.repairs g) [ inl e ↦ inr (subst (λ x. Has x m.held) (sym e) h) | inr x ↦ inl x ])

grows_resting : (at : ℕ) (n : Name) (who : ℕ) (mark : Option RepairMark) (m : MemberState) → Grows [] m (with_rest at n who mark m)
grows_resting at n who None m = grows_same m (with_rest at n who None m) refl refl refl refl refl
grows_resting at n who (Some k) m = grows_same m (with_rest at n who (Some k) m) refl refl refl refl refl

-- ---- tests

if_either : {A : Type 0} (Q : A → Type 0) (b : Bool) (x y : A) → (b ≡ true → Q x) → (b ≡ false → Q y) → Q (cond b x y)
if_either Q true x y h g = h refl
if_either Q false x y h g = g refl

grows_choice : (b : Bool) (m x y : MemberState) → Grows [] m x → Grows [] m y → Grows [] m (cond b x y)
grows_choice true m x y h g = h
grows_choice false m x y h g = g

-- a timer that is taken over is set for a name that had one
grows_taken_over : (n : Name) (who : ℕ) (width : Option ℕ) (r : Repairing) (m : MemberState) → find name_cmp n m.repairs ≡ Some r
    → Grows [] m (with_timer_taken_over n who width r m)
grows_taken_over n who width r m e =
    grows_choice (takes_over m.fixed width r) m _ m
    (grows_timers m (record m { repairs = put name_cmp n (record r { requester = who; width = width }) m.repairs }) refl refl refl refl
    (λ k g. elim (has_cases k n _ m.repairs g) [ inl q ↦ inl (subst (λ x. Has x m.repairs) (sym q) (ap is_some e)) | inr x ↦ inl x ]))
    (grows_same m m refl refl refl refl refl)

grows_seen : (at : ℕ) (n : Name) (who : ℕ) (local : Option Local) (rest : Resting) (o : Option Repairing) (m : MemberState)
    → Grows [] m (with_repair_seen at n who local rest o m)
grows_seen at n who local rest None m = grows_same m (with_repair_seen at n who local rest None m) refl refl refl refl refl
grows_seen at n who local rest (Some r) m =
    grows_choice (serves m.fixed (mark_from m.fixed who local) r.requester r.width) m _ m
    (grows_timers m (record m {
      repairs = without n m.repairs;
      repair_interval = cond (is_second_step m.fixed r) m.repair_interval (after_repair_delay at r m);
    }) refl refl refl refl
    (λ k g. inl (without_less k n m.repairs g).1))
    (grows_same m m refl refl refl refl refl)

-- a second step is of a name that is held
grows_second : (at : ℕ) (n : Name) (rest : Resting) (local : Option Local) (m : MemberState)
    → Grows [] m (with_second_step at n rest local m)
grows_second at n rest None m = grows_same m m refl refl refl refl refl
grows_second at n rest (Some l) m =
    if_either (Grows [] m) (begins_second_step at n rest l m)
    (with_timer_set at n (repair_length m 0) m.fixed.member (Some l.width) m) m
    (λ begins.
    let held : Has n m.held = (and_parts _ _ (and_parts _ _
    (and_parts (are_two m.fixed.steps && (l.requester == m.fixed.member)) _ begins).1).0).0 in
    grows_timers m (with_timer_set at n (repair_length m 0) m.fixed.member (Some l.width) m) refl refl refl refl
    (λ k g. elim (has_cases k n _ m.repairs g) [ inl e ↦ inr (subst (λ x. Has x m.held) (sym e) held) | inr x ↦ inl x ]))
    (λ stays. grows_same m m refl refl refl refl refl)

pub grows_after_repair : (at : ℕ) (n : Name) (who : ℕ) (local : Option Local) (m : MemberState) → Grows [] m (after_repair at n who local m)
grows_after_repair at n who local m =
    let rested = with_rest at n who (mark_from m.fixed who local) m in
    let seen = with_repair_seen at n who local (rest_of n m) (find name_cmp n m.repairs) rested in
    grows_then [] m rested _ (grows_resting at n who (mark_from m.fixed who local) m)
    (grows_then [] rested seen _ (grows_seen at n who local (rest_of n m) (find name_cmp n m.repairs) rested)
    (grows_second at n (rest_of n m) local seen))

-- ---- what an event does

-- the body, if any, is a session, a request for a name that was missing, or a repair of one with a repair timer, with
-- its ink
abbrev pub Allowed : MemberState → Option Body → Type 0
Allowed m None = Unit {0}
Allowed m (Some (Drawop n ink)) = ⊥
Allowed m (Some (Request n scope)) = Has n m.missing
Allowed m (Some (Repair n ink local)) = Has n m.repairs × (ink ≡ unwrap_or (find name_cmp n m.held) 0)
Allowed m (Some (Session hs)) = Unit {0}

-- nothing new is held
pub record Quiet (m : MemberState) (r : Reaction) : Type 0 where
  pub grows : Grows r.answer.lost m r.state
  pub not_fresh : r.answer.told ≢ Fresh
  pub not_fixed : r.answer.told ≢ Fixed
  pub body : Allowed m r.answer.body

-- data or a repair of this name
abbrev pub Brings : Body → Name → ℕ → Type 0
Brings b n ink = (b ≡ Drawop n ink) ⊎ ((local : Option Local) × (b ≡ Repair n ink local))

-- a name is new, or was missing and is so no more
abbrev pub Mends : MemberState → Reaction → Name → MemberState → Type 0
Mends m r n mid =
    ((r.answer.told ≡ Fresh) × (r.state.missing ≡ mid.missing))
    ⊎ ((r.answer.told ≡ Fixed) × Has n m.missing × (r.state.missing ≡ without n mid.missing))

-- a name that a packet brought is held
pub record Brought (m : MemberState) (b : Body) (r : Reaction) : Type 0 where
  pub name : Name
  pub ink : ℕ
  pub brings : Brings b name ink
  pub mid : MemberState
  pub grows : Grows r.answer.lost m mid
  pub fixed : r.state.fixed ≡ mid.fixed
  pub held : r.state.held ≡ put name_cmp name ink mid.held
  pub mends : Mends m r name mid
  pub below : (k : Name) → Below k mid → Below k r.state
  pub plans : (k : Name) → Has k r.state.repairs → Has k mid.repairs ⊎ Has k r.state.held
  pub body : r.answer.body ≡ None

-- a name is drawn, and held
pub record Drawn (m : MemberState) (r : Reaction) : Type 0 where
  pub name : Name
  pub ink : ℕ
  pub source : name.source ≡ m.fixed.member
  pub fixed : r.state.fixed ≡ m.fixed
  pub held : r.state.held ≡ put name_cmp name ink m.held
  pub missing : r.state.missing ≡ m.missing
  pub repairs : r.state.repairs ≡ m.repairs
  pub new : ¬ Below name m
  pub heard : Below name r.state
  pub below : (k : Name) → Below k m → Below k r.state
  pub told : r.answer.told ≡ Sent
  pub lost : r.answer.lost ≡ []
  pub body : r.answer.body ≡ Some (Drawop name ink)

abbrev pub BroughtBy : MemberState → Cause → Reaction → Type 0
BroughtBy m (Arrival p) r = Brought m p.body r
BroughtBy m _ r = ⊥

abbrev pub DrawnBy : MemberState → Cause → Reaction → Type 0
DrawnBy m (Draw page ink) r = Drawn m r
DrawnBy m _ r = ⊥

-- what the answer to a cause changes
abbrev pub Effect : MemberState → Cause → Reaction → Type 0
Effect m cause r = Quiet m r ⊎ (BroughtBy m cause r ⊎ DrawnBy m cause r)

-- ---- packets with an operation

abbrev Got : MemberState → Body → Reaction → Type 0
Got m b r = Quiet m r ⊎ Brought m b r

le_of : (a b : ℕ) → nat_le a b ≡ true → a ≤ b
le_of a b h = Rattle.std.proofs.Common.leb-true a b h

got_effect : (b : Body) (at : ℕ) (n : Name) (ink : ℕ) (repaired : Bool) (m : MemberState) → Brings b n ink
    → Got m b (hear_data at n ink repaired m)
unfolding hear_data
got_effect b at n ink repaired m brings =
    let s = meet m (page_of n) n.number in
    if_either (Got m b) (nat_lt n.number s.floor) _ _
    (λ low. inl (record { grows = grows_meet m (page_of n) n.number; not_fresh = λ e. cc; not_fixed = λ e. cc; body = tt }))
    (λ high. if_either (Got m b) (nat_le s.next n.number) _ _
    (λ new. inr (record {
      name = n;
      ink = ink;
      brings = brings;
      mid = lose_below at (page_of n) n.number (n.number + 1) s [] m;
      grows = grows_lose at (page_of n) n.number n.number (n.number + 1) [] m
          (omega arith) (let le = le_of s.next n.number new in omega arith);
      fixed = refl;
      held = refl;
      mends = inl (refl, refl);
      below = λ k h. h;
      plans = λ k h. inl h;
      body = refl;
    }))
    (λ old. if_either (Got m b) (has_entry n m.missing) _ _
    (λ lacks. inr (record {
      name = n;
      ink = ink;
      brings = brings;
      mid = with_progress (page_of n) s m;
      grows = grows_meet m (page_of n) n.number;
      fixed = refl;
      held = refl;
      mends = inr (refl, lacks, refl);
      below = λ k h. h;
      plans = λ k h. inl h;
      body = refl;
    }))
    (λ has. inl (record { grows = grows_meet m (page_of n) n.number; not_fresh = λ e. cc; not_fixed = λ e. cc; body = tt }))))

rested : (m : MemberState) (b : Body) (at : ℕ) (n : Name) (who : ℕ) (local : Option Local) (r : Reaction) → Got m b r
    → Got m b (record r { state = after_repair at n who local r.state })
rested m b at n who local r (inl q) = inl (record {
  grows = grows_then r.answer.lost m r.state _ q.grows (grows_after_repair at n who local r.state);
  not_fresh = q.not_fresh;
  not_fixed = q.not_fixed;
  body = q.body;
})
rested m b at n who local r (inr t) =
    let g = grows_after_repair at n who local r.state in
    inr (record {
      name = t.name;
      ink = t.ink;
      brings = t.brings;
      mid = t.mid;
      grows = t.grows;
      fixed = g.fixed ∙ t.fixed;
      held = g.held ∙ t.held;
      mends = subst (λ es. ((r.answer.told ≡ Fresh) × (es ≡ t.mid.missing))
          ⊎ ((r.answer.told ≡ Fixed) × Has t.name m.missing × (es ≡ without t.name t.mid.missing)))
          (sym (missing_stays at n who local r.state)) t.mends;
      below = λ k h. g.below k (t.below k h);
      plans = λ k h. elim (g.plans k h) [
        | inl x ↦ elim (t.plans k x) [ inl y ↦ inl y | inr y ↦ inr (subst (Has k) (sym g.held) y) ]
        | inr x ↦ inr (subst (Has k) (sym g.held) x)
      ];
      body = t.body;
    })
  where
    rest_missing : (at : ℕ) (n : Name) (who : ℕ) (mark : Option RepairMark) (k : MemberState)
        → (with_rest at n who mark k).missing ≡ k.missing
    rest_missing at n who None k = refl
    rest_missing at n who (Some x) k = refl

    seen_missing : (at : ℕ) (n : Name) (who : ℕ) (local : Option Local) (rest : Resting) (o : Option Repairing) (k : MemberState)
        → (with_repair_seen at n who local rest o k).missing ≡ k.missing
    seen_missing at n who local rest None k = refl
    seen_missing at n who local rest (Some x) k =
        if_either (λ (y : MemberState). y.missing ≡ k.missing) (serves k.fixed (mark_from k.fixed who local) x.requester x.width) _ k
        (λ h. refl) (λ h. refl)

    second_missing : (at : ℕ) (n : Name) (rest : Resting) (local : Option Local) (k : MemberState)
        → (with_second_step at n rest local k).missing ≡ k.missing
    second_missing at n rest None k = refl
    second_missing at n rest (Some l) k =
        if_either (λ (y : MemberState). y.missing ≡ k.missing) (begins_second_step at n rest l k) _ k (λ h. refl) (λ h. refl)

    missing_stays : (at : ℕ) (n : Name) (who : ℕ) (local : Option Local) (k : MemberState)
        → (after_repair at n who local k).missing ≡ k.missing
    missing_stays at n who local k =
        let rested = with_rest at n who (mark_from k.fixed who local) k in
        second_missing at n (rest_of n k) local (with_repair_seen at n who local (rest_of n k) (find name_cmp n k.repairs) rested)
        ∙ seen_missing at n who local (rest_of n k) (find name_cmp n k.repairs) rested
        ∙ rest_missing at n who (mark_from k.fixed who local) k

repair_effect : (b : Body) (at : ℕ) (n : Name) (ink who : ℕ) (local : Option Local) (m : MemberState) → Brings b n ink
    → Got m b (hear_repair at n ink who local m)
repair_effect b at n ink who local m brings =
    let r = hear_data at n ink true m in
    let g = got_effect b at n ink true m brings in
    if_either (Got m b) (is_skip r.answer.told) r (record r { state = after_repair at n who local r.state }) (λ skip. g)
    (λ goes. rested m b at n who local r g)

-- ---- requests

asked_effect : (at : ℕ) (n : Name) (lost : List Name) (m k : MemberState) (o : Option Missing) → find name_cmp n k.missing ≡ o
    → Grows lost m k
    → Quiet m (hear_request_by_entry at n lost k o)
asked_effect at n lost m k None e g = record { grows = g; not_fresh = λ e. cc; not_fixed = λ e. cc; body = tt }
asked_effect at n lost m k (Some x) e g = if_either (Quiet m) (nat_lt at x.ignore) _ _
    (λ early. record {
      grows =
          let heard : MemberState = record k { request_interval = hear_duplicate k.request_interval } in
          grows_then lost m k heard g (grows_same k heard refl refl refl refl refl);
      not_fresh = λ e. cc;
      not_fixed = λ e. cc;
      body = tt;
    })
    (λ late. record {
      grows = grows_then lost m k (back_off at n x k) g (grows_back_off at n x k (ap is_some e));
      not_fresh =
          λ e. cc;
      not_fixed = λ e. cc;
      body = tt;
    })

timer_effect : (at : ℕ) (n : Name) (who : ℕ) (width : Option ℕ) (m k : MemberState) (o : Option Repairing) → find name_cmp n k.repairs ≡ o
    → Has n k.held → Grows [] m k → Quiet m (hear_request_by_timer at n who width k o)
timer_effect at n who width m k None e h g = record {
  grows = grows_then [] m k (with_repair_timer at n who width k) g (grows_planning at n who width k h);
  not_fresh = λ e. cc;
  not_fixed = λ e. cc;
  body = tt;
}
timer_effect at n who width m k (Some r) e h g = record {
  grows = grows_then [] m k (with_timer_taken_over n who width r k) g (grows_taken_over n who width r k e);
  not_fresh = λ e. cc;
  not_fixed = λ e. cc;
  body = tt;
}

held_effect : (at : ℕ) (n : Name) (who : ℕ) (width : Option ℕ) (m k : MemberState) → Has n k.held → Grows [] m k
    → Quiet m (hear_request_of_held at n who width k)
held_effect at n who width m k h g =
    if_either (Quiet m) (rests_for at k.fixed (rest_of n k) who width) _ _
    (λ rests. record { grows = g; not_fresh = λ e. cc; not_fixed = λ e. cc; body = tt })
    (λ goes. timer_effect at n who width m k (find name_cmp n k.repairs) refl h g)

-- the entry of a page that was met is met again
met_again : (m : MemberState) (p : PageId) (x : ℕ) → meet (with_progress p (meet m p x) m) p x ≡ meet m p x
met_again m p x = ap (λ o. unwrap_or o (record { floor = begins_at m p x; next = begins_at m p x })) (page_here p (meet m p x) m.progress)

request_effect : (at : ℕ) (n : Name) (who : ℕ) (width : Option ℕ) (m : MemberState) → Quiet m (hear_request at n who width m)
unfolding hear_request
request_effect at n who width m =
    let p = page_of n in
    let s = meet m p (n.number + 1) in
    let k = with_progress p s m in
    let g = grows_meet m p (n.number + 1) in
    let lose = lose_below at p (n.number + 1) (n.number + 1) s [] k in
    if_either (Quiet m) (nat_lt n.number s.floor) _ _
    (λ low. record { grows = g; not_fresh = λ e. cc; not_fixed = λ e. cc; body = tt })
    (λ high. if_either (Quiet m) (has_entry n k.held) _ _
    (λ has. held_effect at n who width m k has g)
    (λ lacks. if_either (Quiet m) (nat_le s.next n.number) _ _
    (λ new.
    let le = le_of s.next n.number new in
    let again = met_again m p (n.number + 1) in
    let low : (meet k p (n.number + 1)).next ≤ n.number + 1 =
    (let e : (meet k p (n.number + 1)).next ≡ s.next = ap (λ (t : Progress). t.next) again in omega arith) in
    let l : Grows (lost_below p (n.number + 1) s) k lose =
    subst (λ t. Grows (lost_below p (n.number + 1) t) k (lose_below at p (n.number + 1) (n.number + 1) t [] k)) again
    (grows_lose at p (n.number + 1) (n.number + 1) (n.number + 1) [] k (omega arith) low) in
    asked_effect at n (lost_below p (n.number + 1) s) m lose (find name_cmp n lose.missing) refl
    (grows_on [] (lost_below p (n.number + 1) s) m k lose g l))
    (λ old. asked_effect at n [] m k (find name_cmp n k.missing) refl g)))

-- ---- sessions

none_below : (p : PageId) (end : ℕ) (s : Progress) → end ≤ s.next → lost_below p end s ≡ []
none_below p end s le = let none : end - s.next ≡ 0 = omega arith in ap (λ c. names_from p c s.next) none

pub entry_effect : (at : ℕ) (h : Heard) (lost : List Name) (m : MemberState) → Grows (lost_by_entry h m) m (after_entry at h lost m)
unfolding after_entry
entry_effect at h lost m =
    let p = page_heard h in
    let s = meet m p (h.highest + 1) in
    if_either (Grows (lost_by_entry h m) m) (nat_le s.next h.highest) _ _
    (λ new. let le = le_of s.next h.highest new in grows_lose at p (h.highest + 1) (h.highest + 1) (h.highest + 1) lost m (omega arith)
    (omega arith))
    (λ old.
    let none : lost_below p (h.highest + 1) s ≡ [] = none_below p (h.highest + 1) s (high_of s.next h.highest old) in
    subst (λ l. Grows l m (with_progress p s m)) (sym none) (grows_meet m p (h.highest + 1)))
  where
    high_of : (a b : ℕ) → nat_le a b ≡ false → b + 1 ≤ a
    high_of a b h = let g = Rattle.std.proofs.Common.leb-false a b h in omega arith

informed_effect : (at : ℕ) (hs : List Heard) (m k : MemberState) (lost : List Name) → Grows lost m k → Quiet m (hear_session at hs k lost)
unfolding hear_session
informed_effect at [] m k lost g = record { grows = g; not_fresh = λ e. cc; not_fixed = λ e. cc; body = tt }
informed_effect at (h ∷ hs) m k lost g = informed_effect at hs m (after_entry at h lost k) _
    (grows_on lost (lost_by_entry h k) m k (after_entry at h lost k) g (entry_effect at h lost k))

nothing : (m : MemberState) → Grows [] m m
nothing m = grows_same m m refl refl refl refl refl

hear_effect : (at who : ℕ) (b : Body) (m : MemberState) → Got m b (hear_body at who b m)
hear_effect at who (Drawop n ink) m = got_effect (Drawop n ink) at n ink false m (inl refl)
hear_effect at who (Repair n ink local) m = repair_effect (Repair n ink local) at n ink who local m (inr (local, refl))
hear_effect at who (Request n scope) m = inl (request_effect at n who scope m)
hear_effect at who (Session hs) m = inl (informed_effect at hs m m [] (nothing m))

-- ---- own timers and draws

skips : (m : MemberState) (told : Told) → told ≢ Fresh → told ≢ Fixed → Quiet m (quietly m told [])
skips m t a b = record { grows = nothing m; not_fresh = a; not_fixed = b; body = tt }

asking_effect : (at : ℕ) (n : Name) (m : MemberState) (o : Option Missing) → find name_cmp n m.missing ≡ o
    → Quiet m (expire_request_by_entry at n m o)
asking_effect at n m None e = skips m Skip (λ e. cc) (λ e. cc)
asking_effect at n m (Some x) e = record {
  grows = grows_then [] m (with_request_first x m) _ (grows_same m (with_request_first x m) refl refl refl refl refl)
      (grows_back_off at n x (with_request_first x m) (ap is_some e));
  not_fresh = λ e. cc;
  not_fixed = λ e. cc;
  body =
      ap is_some e;
}

grows_own_ended : (at : ℕ) (n : Name) (r : Repairing) (mark : Option RepairMark) (m : MemberState)
    → Grows [] m (with_own_timer_ended at n r mark m)
grows_own_ended at n r mark m =
    let seen = with_answer_seen at r m in
    let rested = with_rest at n m.fixed.member mark seen in
    let g : Grows [] m seen = seen_grows at r m in
    grows_then [] m seen _ g
    (grows_then [] seen rested _ (grows_resting at n m.fixed.member mark seen)
    (grows_timers rested (with_own_timer_ended at n r mark m) refl refl refl refl (λ k h. inl (without_less k n rested.repairs h).1)))
  where
    seen_grows : (at : ℕ) (r : Repairing) (m : MemberState) → Grows [] m (with_answer_seen at r m)
    seen_grows at r m = grind (arith, grows_same)

answering_effect : (at : ℕ) (n : Name) (m : MemberState) (o : Option Repairing) → find name_cmp n m.repairs ≡ o
    → Quiet m (expire_repair_by_entry at n m o)
answering_effect at n m None e = skips m Skip (λ e. cc) (λ e. cc)
answering_effect at n m (Some x) e = record {
  grows = grows_own_ended at n x (mark_after 0 (local_of m.fixed x)) m;
  not_fresh = λ e. cc;
  not_fixed = λ e. cc;
  body =
      (ap is_some e, refl);
}

-- the entry of an own page, which begins at 0
own_met : (m : MemberState) (p : PageId) → (find page_cmp p m.progress ≡ Some (own_progress m p)) ⊎ (find page_cmp p m.progress ≡ None)
own_met m p = grind arith

drawing_effect : (at page ink : ℕ) (m : MemberState) → Quiet m (draw_operation page ink m) ⊎ Drawn m (draw_operation page ink m)
unfolding draw_operation
drawing_effect at page ink m =
    let p : PageId = record { source = m.fixed.member; page = page } in
    let s = own_progress m p in
    let t : Progress = record { floor = s.floor; next = s.next + 1 } in
    let n = name_in p s.next in
    if_either (λ r. Quiet m r ⊎ Drawn m r) (is_sender m.fixed.role && nat_lt s.next most_drawn)
    (send_body (with_held n ink (with_progress p t m)) (Drawop n ink))
    (quietly m Skip [])
    (λ goes. inr (record {
      name = n;
      ink = ink;
      source = refl;
      fixed = refl;
      held = refl;
      missing = refl;
      repairs = refl;
      new = λ b. elim (own_met m p) [
        | inl e ↦
            let same : s.next ≡ b.0.next = ap (λ (u : Progress). u.next) (same_Some _ _ (sym e ∙ b.1)) in
            let lt : s.next < b.0.next = b.2 in
            omega arith
        | inr e ↦ none_some (find page_cmp p m.progress) b.0 e b.1
      ];
      heard = (t, page_here p t m.progress, (let lt : s.next < s.next + 1 = omega arith in lt));
      below = λ k b. elim (page_cases (page_of k) p t m.progress) [
        | inl same ↦
            let old : s.next ≡ b.0.next = (elim (own_met m p) [
              | inl e ↦ ap (λ (u : Progress). u.next) (same_Some _ _ (sym e ∙ ap (λ q. find page_cmp q m.progress) (sym same) ∙ b.1))
              | inr e ↦ absurd (none_some (find page_cmp p m.progress) b.0 e (ap (λ q. find page_cmp q m.progress) (sym same) ∙ b.1))
            ]) in
            let lt = b.2 in
            (t, ap (λ q. find page_cmp q (put page_cmp p t m.progress)) same ∙ page_here p t m.progress, omega arith)
        | inr other ↦ (b.0, other ∙ b.1, b.2)
      ];
      told = refl;
      lost = refl;
      body = refl;
    }))
    (λ stays. inl (skips m Skip (λ e. cc) (λ e. cc)))

active_effect : (m : MemberState) (at : ℕ) (cause : Cause) → Effect m cause (react_active m at cause)
unfolding expire_request expire_repair
active_effect m at cause = grind (arith, hear_effect, asking_effect, answering_effect, drawing_effect)

-- ---- listeners

listener_effect : (m : MemberState) (cause : Cause) → Effect m cause (react_listener m cause)
listener_effect m cause = grind arith

told_effect : (o : Option Intervals) (m : MemberState) (cause : Cause) (r : Reaction) → Effect m cause r
    → Effect m cause (record r { answer = record r.answer { adapted = o } })
told_effect o m cause r h4 = grind arith

-- what an event changes of the names that a member holds and lacks
pub effect : (m : MemberState) (at : ℕ) (cause : Cause) → Effect m cause (react m at cause)
unfolding react
effect m at cause =
    if_either (Effect m cause) (is_listener m.fixed.role) (react_listener m cause)
    (telling_intervals cause (intervals_of m) (react_active m at cause))
    (λ l. listener_effect m cause)
    (λ l. told_effect (adapted_at cause (intervals_of m) (intervals_of (react_active m at cause).state)) m cause (react_active m at cause)
    (active_effect m at cause))
