-- The scripts of an accepted scenario's members.
use Rattle.std.proofs.Common.{zero, suc, ◌≡◌, ℕ, ◌+◌, ◌<◌, ◌≤◌, ◌≢◌, Bool, true, false, List, [], ◌∷◌, ◌++◌, Option, Some, None, refl}
use Rattle.std.proofs.Common.{sym, ap, ◌∙◌, arith, Equal, slice_get, ◌==◌, eqb-true, subst, cond, All, ◌⊎◌, inl, inr}
use Rattle.std.proofs.lemmas.List.Elements.{All-from_recursion, recursion_from_All}
use Rattle.std.specs.List.{AllByRecursion}
use Rattle.std.specs.Cmp.{IsTotalOrder, on_total}
use Rattle.std.specs.Cmp.Lexicographic.{nat_list_cmp_total}
use Rattle.srm_net.proofs.Basics.{nth_number, same_numbers}
use Rattle.srm_net.proofs.TotalOrders.{one_rank}
use Rattle.srm_net.specs.Keys.{rank_number}
use Rattle.srm_net.specs.declared.rank.Rank.{Rank}
use Rattle.srm_net.specs.declared.rank.Rank.TheVariants.{Join, Draw, Report, Leave}
use Rattle.srm_net.specs.declared.role.Role.TheVariants.{Sender, Listener}
use Rattle.srm_net.specs.Orders.{ordered, Ascends}
use Rattle.srm_scenario.specs.declared.mark.Mark.{Mark}
use Rattle.srm_scenario.specs.declared.parts.MemberSpec.{MemberSpec}
use Rattle.srm_scenario.specs.declared.parts.DrawSpec.{DrawSpec}
use Rattle.srm_scenario.specs.declared.parts.SessionSpec.{SessionSpec}
use Rattle.srm_scenario.specs.Plain.{PlainScenario, mark_cmp, plain_mark, draw_marks, report_marks, leave_marks, marks_of, script_of}
use Rattle.srm_scenario.specs.Accepted.{IsAccepted, IsMember, IsThere, IsDraw, IsSession}
use Rattle.srm_scenario.specs.Scripts.{IsMark, ScriptsFit}
use Rattle.srm_scenario.proofs.Placed.{Apart, all_ordered, all_append, all_weaker, apart_append, ascends_ordered}

-- ---- the order of marks

abbrev pub numbers_of_mark : Mark → List ℕ
numbers_of_mark k = k.at ∷ rank_number k.rank ∷ k.place ∷ []

pub mark_total : IsTotalOrder mark_cmp
mark_total = on_total numbers_of_mark nat_list_cmp_total

-- equal marks have one rank and one place
same_rank : (x y : Mark) → mark_cmp x y ≡ Equal → x.rank ≡ y.rank
unfolding nth_number
same_rank x y e = one_rank x.rank y.rank (ap (nth_number 1) (same_numbers (numbers_of_mark x) (numbers_of_mark y) e))

same_place : (x y : Mark) → mark_cmp x y ≡ Equal → x.place ≡ y.place
unfolding nth_number
same_place x y e = ap (nth_number 2) (same_numbers (numbers_of_mark x) (numbers_of_mark y) e)

other_rank : (x y : Mark) → x.rank ≢ y.rank → mark_cmp x y ≢ Equal
other_rank x y h e = h (same_rank x y e)

other_place : (x y : Mark) → x.place < y.place → mark_cmp x y ≢ Equal
other_place x y h e = let q = same_place x y e in omega arith

-- ---- the marks of draws

-- of a rank, from a place on
abbrev pub Later : Rank → ℕ → Mark → Type 0
Later r i x = (x.rank ≡ r) × (i ≤ x.place)

later_on : (r : Rank) (i : ℕ) (xs : List Mark) → AllByRecursion (Later r (i + 1)) xs → AllByRecursion (Later r i) xs
later_on r i xs h = all_weaker (Later r (i + 1)) (Later r i) (λ x w. (w.0, let f = w.1 in omega arith)) xs h

all_if : (P : Mark → Type 0) (b : Bool) (xs ys : List Mark) → (b ≡ true → AllByRecursion P xs) → AllByRecursion P ys
    → AllByRecursion P (cond b xs ys)
all_if P true xs ys h g = h refl
all_if P false xs ys h g = g

apart_if : (b : Bool) (xs ys : List Mark) → Apart mark_cmp xs → Apart mark_cmp ys → Apart mark_cmp (cond b xs ys)
apart_if true xs ys h g = h
apart_if false xs ys h g = g

abbrev pub draw_mark : ℕ → DrawSpec → Mark
draw_mark i d = record { at = d.at; rank = Draw; place = i; page = d.page; ink = d.ink }

draws_later : (m i : ℕ) (ds : List DrawSpec) → AllByRecursion (Later Draw i) (draw_marks m i ds)
draws_later m i [] = tt
draws_later m i (d ∷ ds) =
    let rest : AllByRecursion (Later Draw i) (draw_marks m (i + 1) ds) =
    later_on Draw i (draw_marks m (i + 1) ds) (draws_later m (i + 1) ds) in
    all_if (Later Draw i) (d.member == m) (draw_mark i d ∷ draw_marks m (i + 1) ds) (draw_marks m (i + 1) ds)
    (λ _. ((refl, omega arith), rest)) rest

draws_apart : (m i : ℕ) (ds : List DrawSpec) → Apart mark_cmp (draw_marks m i ds)
draws_apart m i [] = tt
draws_apart m i (d ∷ ds) =
    apart_if (d.member == m) (draw_mark i d ∷ draw_marks m (i + 1) ds) (draw_marks m (i + 1) ds) (
      all_weaker (Later Draw (i + 1)) _ (λ x w. let f : i < x.place = (let g = w.1 in omega arith) in other_place (draw_mark i d) x f)
          (draw_marks m (i + 1) ds) (draws_later m (i + 1) ds),
      draws_apart m (i + 1) ds,
    )
    (draws_apart m (i + 1) ds)

-- ---- the marks of session messages

reports_later : (m i : ℕ) (rs : List SessionSpec) → AllByRecursion (Later Report i) (report_marks m i rs)
reports_later m i [] = tt
reports_later m i (r ∷ rs) =
    let rest : AllByRecursion (Later Report i) (report_marks m (i + 1) rs) =
    later_on Report i (report_marks m (i + 1) rs) (reports_later m (i + 1) rs) in
    all_if (Later Report i) (r.member == m) (plain_mark r.at Report i ∷ report_marks m (i + 1) rs) (report_marks m (i + 1) rs)
    (λ _. ((refl, omega arith), rest)) rest

reports_apart : (m i : ℕ) (rs : List SessionSpec) → Apart mark_cmp (report_marks m i rs)
reports_apart m i [] = tt
reports_apart m i (r ∷ rs) =
    apart_if (r.member == m) (plain_mark r.at Report i ∷ report_marks m (i + 1) rs) (report_marks m (i + 1) rs) (
      all_weaker (Later Report (i + 1)) _
          (λ x w. let f : i < x.place = (let g = w.1 in omega arith) in other_place (plain_mark r.at Report i) x f)
          (report_marks m (i + 1) rs) (reports_later m (i + 1) rs),
      reports_apart m (i + 1) rs,
    )
    (reports_apart m (i + 1) rs)

leave_later : (leave : Option ℕ) → AllByRecursion (Later Leave 0) (leave_marks leave)
leave_later None = tt
leave_later (Some at) = ((refl, omega arith), tt)

leave_apart : (leave : Option ℕ) → Apart mark_cmp (leave_marks leave)
leave_apart None = tt
leave_apart (Some at) = (tt, tt)

-- ---- all marks of a member

-- marks of one rank are apart from those of another
ranks_apart : (r q : Rank) (i j : ℕ) (xs ys : List Mark) → r ≢ q → AllByRecursion (Later r i) xs → AllByRecursion (Later q j) ys
    → AllByRecursion (λ x. AllByRecursion (λ y. mark_cmp x y ≢ Equal) ys) xs
ranks_apart r q i j xs ys ne h g =
    all_weaker (Later r i) _ (λ x w. all_weaker (Later q j) _ (λ y v. other_rank x y (λ e. ne (sym w.0 ∙ e ∙ v.0))) ys g) xs h

abbrev pub marks_by : PlainScenario → ℕ → MemberSpec → List Mark
marks_by s m k = plain_mark k.join Join 0 ∷ draw_marks m 0 s.draws ++ report_marks m 0 s.sessions ++ leave_marks k.leave

-- a mark of another rank is apart from the join
after_join : (at : ℕ) (r : Rank) (i : ℕ) (xs : List Mark) → Join ≢ r → AllByRecursion (Later r i) xs
    → AllByRecursion (λ y. mark_cmp (plain_mark at Join 0) y ≢ Equal) xs
after_join at r i xs ne h = all_weaker (Later r i) _ (λ x w. other_rank (plain_mark at Join 0) x (λ e. ne (e ∙ w.0))) xs h

marks_apart : (s : PlainScenario) (m : ℕ) (k : MemberSpec) → Apart mark_cmp (marks_by s m k)
marks_apart s m k =
    let ds : List Mark = draw_marks m 0 s.draws in
    let rs : List Mark = report_marks m 0 s.sessions in
    let ls : List Mark = leave_marks k.leave in
    let dl : AllByRecursion (Later Draw 0) ds = draws_later m 0 s.draws in
    let rl : AllByRecursion (Later Report 0) rs = reports_later m 0 s.sessions in
    let ll : AllByRecursion (Later Leave 0) ls = leave_later k.leave in
    let dr : Apart mark_cmp (ds ++ rs) = apart_append mark_cmp ds rs (draws_apart m 0 s.draws) (reports_apart m 0 s.sessions)
    (ranks_apart Draw Report 0 0 ds rs (λ e. cc) dl rl) in
    let far : AllByRecursion (λ x. AllByRecursion (λ y. mark_cmp x y ≢ Equal) ls) (ds ++ rs) =
    all_append _ ds rs (ranks_apart Draw Leave 0 0 ds ls (λ e. cc) dl ll) (ranks_apart Report Leave 0 0 rs ls (λ e. cc) rl ll) in (
      all_append _ (ds ++ rs) ls (all_append _ ds rs (after_join k.join Draw 0 ds (λ e. cc) dl)
          (after_join k.join Report 0 rs (λ e. cc) rl)) (after_join k.join Leave 0 ls (λ e. cc) ll),
      apart_append mark_cmp (ds ++ rs) ls dr (leave_apart k.leave) far,
    )

-- ---- each mark is the member's

same_spec : (s : PlainScenario) (m n : ℕ) (j k : MemberSpec) → slice_get s.members m ≡ Some k → slice_get s.members n ≡ Some j → n ≡ m → j
    ≡ k
same_spec s m n j k h g e = let q : slice_get s.members n ≡ slice_get s.members m = ap (λ i. slice_get s.members i) e in cc

there : (until at : ℕ) (rank : Rank) (place page ink : ℕ) (j k : MemberSpec) → j ≡ k → IsThere until at j
    → (rank ≡ Draw) ⊎ (rank ≡ Report) → (rank ≡ Draw → k.role ≡ Sender) → (rank ≡ Report → k.role ≢ Listener)
    → IsMark until k (record { at = at; rank = rank; place = place; page = page; ink = ink })
there until at rank place page ink j k e t is d r = grind arith

draws_are : (s : PlainScenario) (m : ℕ) (k : MemberSpec) → slice_get s.members m ≡ Some k → (i : ℕ) (ds : List DrawSpec)
    → AllByRecursion (IsDraw s) ds
    → AllByRecursion (IsMark s.until k) (draw_marks m i ds)
draws_are s m k h i [] a = tt
draws_are s m k h i (d ∷ ds) a =
    let rest : AllByRecursion (IsMark s.until k) (draw_marks m (i + 1) ds) = draws_are s m k h (i + 1) ds a.1 in
    all_if (IsMark s.until k) (d.member == m) (draw_mark i d ∷ draw_marks m (i + 1) ds) (draw_marks m (i + 1) ds)
    (λ e. (
      let q : a.0.0 ≡ k = same_spec s m d.member a.0.0 k h a.0.1 (eqb-true _ _ e) in
          there s.until d.at Draw i d.page d.ink a.0.0 k q a.0.3 (inl refl) (λ _. sym (ap (λ z. z.role) q) ∙ a.0.2)
          (λ z. cc),
      rest,
    ))
    rest

reports_are : (s : PlainScenario) (m : ℕ) (k : MemberSpec) → slice_get s.members m ≡ Some k → (i : ℕ) (rs : List SessionSpec)
    → AllByRecursion (IsSession s) rs
    → AllByRecursion (IsMark s.until k) (report_marks m i rs)
reports_are s m k h i [] a = tt
reports_are s m k h i (r ∷ rs) a =
    let rest : AllByRecursion (IsMark s.until k) (report_marks m (i + 1) rs) = reports_are s m k h (i + 1) rs a.1 in
    all_if (IsMark s.until k) (r.member == m) (plain_mark r.at Report i ∷ report_marks m (i + 1) rs) (report_marks m (i + 1) rs)
    (λ e. (
      let q : a.0.0 ≡ k = same_spec s m r.member a.0.0 k h a.0.1 (eqb-true _ _ e) in
          there s.until r.at Report i 0 0 a.0.0 k q a.0.3 (inr refl) (λ z. cc)
          (λ _ f. a.0.2 (ap (λ z. z.role) q ∙ f)),
      rest,
    ))
    rest

join_is : (until : ℕ) (k : MemberSpec) → IsMember until k → IsMark until k (plain_mark k.join Join 0)
join_is until k h = grind arith

leave_is : (until : ℕ) (k : MemberSpec) → IsMember until k → (at : ℕ) → k.leave ≡ Some at → IsMark until k (plain_mark at Leave 0)
leave_is until k h at e = grind arith

leaves_are : (until : ℕ) (k : MemberSpec) → IsMember until k → (leave : Option ℕ) → k.leave ≡ leave
    → AllByRecursion (IsMark until k) (leave_marks leave)
leaves_are until k h None e = tt
leaves_are until k h (Some at) e = (leave_is until k h at e, tt)

marks_are : (s : PlainScenario) → IsAccepted s → (m : ℕ) (k : MemberSpec) → slice_get s.members m ≡ Some k → IsMember s.until k
    → AllByRecursion (IsMark s.until k) (marks_by s m k)
marks_are s a m k h i = (
  join_is s.until k i,
  all_append _ (draw_marks m 0 s.draws ++ report_marks m 0 s.sessions) (leave_marks k.leave)
      (all_append _ (draw_marks m 0 s.draws) (report_marks m 0 s.sessions)
      (draws_are s m k h 0 s.draws (recursion_from_All _ s.draws a.draws))
      (reports_are s m k h 0 s.sessions (recursion_from_All _ s.sessions a.sessions)))
      (leaves_are s.until k i k.leave refl),
)

-- what holds of all holds of one of them
all_get : {X : Type 0} (P : X → Type 0) (xs : List X) (n : ℕ) (x : X) → AllByRecursion P xs → slice_get xs n ≡ Some x → P x
all_get P [] n x h e = cc
all_get P (y ∷ ys) zero x h e = let q : y ≡ x = cc in subst P q h.0
all_get P (y ∷ ys) (suc n) x h e = all_get P ys n x h.1 e

pub scripts_fit : ScriptsFit
unfolding script_of
scripts_fit s a m k h =
    let i : IsMember s.until k = all_get (IsMember s.until) s.members m k (recursion_from_All (IsMember s.until) s.members a.members) h in
    let e : marks_of s m (slice_get s.members m) ≡ marks_by s m k = ap (λ o. marks_of s m o) h in
    let ascends : Ascends mark_cmp (ordered mark_cmp (marks_by s m k)) =
    ascends_ordered mark_cmp mark_total (marks_by s m k) (marks_apart s m k) in
    let are : AllByRecursion (IsMark s.until k) (ordered mark_cmp (marks_by s m k)) =
    all_ordered mark_cmp (IsMark s.until k) (marks_by s m k) (marks_are s a m k h i) in
    record {
      ascends = subst (λ xs. Ascends mark_cmp (ordered mark_cmp xs)) (sym e) ascends;
      marks = subst (λ xs. All (IsMark s.until k) (ordered mark_cmp xs))
          (sym e) (All-from_recursion (IsMark s.until k) (ordered mark_cmp (marks_by s m k)) are);
    }
