-- The lists of marks of which scripts are made, step by step.
use Rattle.std.proofs.Common.{◌≡◌, ◌≢◌, ℕ, zero, suc, ◌+◌, ◌<◌, List, [], ◌∷◌, ◌++◌, length, map, drop, take, get_or, set, refl, sym, subst}
use Rattle.std.proofs.Common.{ap, ◌∙◌, arith, Some, slice_get, All, append-nil, append_assoc, Vec, Global}
use Rattle.std.proofs.lemmas.List.{drop_more, map-set, get_or-map, take_more_set, drop-set-lt, length-map}
use Rattle.std.proofs.lemmas.List.FromFn.{get_or-map-range_with_len, length-map-range_with_len}
use Rattle.std.proofs.lemmas.List.Elements.{All-weaker}
use Rattle.std.proofs.lemmas.Option.{slice_get_within}
use Rattle.std.specs.List.{range_with_len}
use Rattle.srm_net.specs.declared.rank.Rank.TheVariants.{Report}
use Rattle.srm_net.specs.Orders.{ordered, Rises}
use Rattle.srm_scenario.specs.declared.mark.Mark.{Mark}
use Rattle.srm_scenario.specs.declared.parts.MemberSpec.{MemberSpec}
use Rattle.srm_scenario.specs.declared.parts.DrawSpec.{DrawSpec}
use Rattle.srm_scenario.specs.declared.parts.SessionSpec.{SessionSpec}
use Rattle.srm_scenario.specs.Accepted.{IsAccepted, IsDraw, IsSession}
use Rattle.srm_scenario.specs.Plain.{PlainScenario, mark_cmp, plain_mark, draw_marks, report_marks, leave_marks, marks_of, script_of}
use Rattle.srm_scenario.specs.ScriptLists.{scripts_of, joins_of, with_each, closed}
use Rattle.srm_scenario.proofs.ScriptLemmas.{draw_mark}
use Rattle.srm_scenario.proofs.Marks.{scripts_rise}

-- the lists that vectors hold
abbrev pub lists_in : List (Vec Mark Global) → List (List Mark)
lists_in vs = map (λ marks. marks.items) vs

-- what is within a length is within the same one
pub still_within : (j a n m : ℕ) → j ≡ a → a < n → m ≡ n → j < m
still_within j a n m e lt same = omega arith

-- ---- one mark more

-- `more` gives what `rest` does, and of member a this mark before it
pub record BeginsWith (a : ℕ) (x : Mark) (more rest : ℕ → List Mark) : Type 0 where
  pub here : more a ≡ x ∷ rest a
  pub others : (m : ℕ) → m ≢ a → more m ≡ rest m

-- the lists of members after a
past : (a : ℕ) (x : Mark) (more rest : ℕ → List Mark) → BeginsWith a x more rest → (m : ℕ) (lists : List (List Mark)) → a < m
    → with_each rest m lists ≡ with_each more m lists
past a x more rest b m [] lt = refl
past a x more rest b m (l ∷ ls) lt =
    let ne : m ≢ a = omega arith in
    (λ i. (l ++ sym (b.others m ne) i) ∷ past a x more rest b (m + 1) ls (omega arith) i)

-- the mark is added to the list of member a, which is list j of those from member m on
added : (a : ℕ) (x : Mark) (more rest : ℕ → List Mark) → BeginsWith a x more rest → (m j : ℕ) (lists : List (List Mark)) → m + j ≡ a
    → j < length lists → with_each rest m (set lists j (get_or lists j [] ++ x ∷ [])) ≡ with_each more m lists
added a x more rest b m j [] e lt = absurd (omega arith)
added a x more rest b m zero (l ∷ ls) e lt =
    let at : m ≡ a = omega arith in
    let here : more m ≡ x ∷ rest m = subst (λ k. more k ≡ x ∷ rest k) (sym at) b.here in
    let head : (l ++ x ∷ []) ++ rest m ≡ l ++ more m = append_assoc l (x ∷ []) (rest m) ∙ ap (λ ms. l ++ ms) (sym here) in
    (λ i. head i ∷ past a x more rest b (m + 1) ls (omega arith) i)
added a x more rest b m (suc j) (l ∷ ls) e lt =
    let ne : m ≢ a = omega arith in
    (λ i. (l ++ sym (b.others m ne) i) ∷ added a x more rest b (m + 1) j ls (omega arith) (omega arith) i)

-- a vector that holds one mark more stands at its place
pub pushed_at : (a j : ℕ) (x y : Mark) (more rest : ℕ → List Mark) → BeginsWith a x more rest → j ≡ a → y ≡ x
    → (vs : List (Vec Mark Global)) (v w : Vec Mark Global) → j < length vs → v.items ≡ (get_or vs j w).items ++ y ∷ []
    → with_each rest 0 (lists_in (set vs j v)) ≡ with_each more 0 (lists_in vs)
pushed_at a j x y more rest b to is vs v w lt e =
    let was : (get_or vs j w).items ≡ get_or (lists_in vs) j [] = sym (get_or-map (λ (u : Vec Mark Global). u.items) vs j w [] lt) in
    let now : lists_in (set vs j v) ≡ set (lists_in vs) j (get_or (lists_in vs) j [] ++ x ∷ []) =
    map-set (λ (u : Vec Mark Global). u.items) vs j v ∙ ap (set (lists_in vs) j) (e ∙ (λ i. was i ++ is i ∷ [])) in
    let within : j < length (lists_in vs) = let many = length-map vs (λ (u : Vec Mark Global). u.items) in omega arith in
    ap (with_each rest 0) now ∙ added a x more rest b 0 j (lists_in vs) (omega arith) within

pub draw_begins : (ds : List DrawSpec) (i : ℕ) (d : DrawSpec) → i < length ds
    → BeginsWith (get_or ds i d).member (draw_mark i (get_or ds i d)) (λ m. draw_marks m i (drop i ds))
    (λ m. draw_marks m (i + 1) (drop (i + 1) ds))
draw_begins ds i d lt = grind (arith, drop_more)

pub report_begins : (rs : List SessionSpec) (i : ℕ) (r : SessionSpec) → i < length rs
    → BeginsWith (get_or rs i r).member (plain_mark (get_or rs i r).at Report i) (λ m. report_marks m i (drop i rs))
    (λ m. report_marks m (i + 1) (drop (i + 1) rs))
report_begins rs i r lt = grind (arith, drop_more)

-- nothing is added to any list
pub with_nothing : (more : ℕ → List Mark) → ((m : ℕ) → more m ≡ []) → (m : ℕ) (lists : List (List Mark)) → with_each more m lists ≡ lists
with_nothing more h m [] = refl
with_nothing more h m (l ∷ ls) = (λ i. (ap (λ ms. l ++ ms) (h m) ∙ append-nil l) i ∷ with_nothing more h (m + 1) ls i)

-- ---- one list closed more

pub closed_more : (ks : List MemberSpec) (m : ℕ) (k : MemberSpec) (vs : List (Vec Mark Global)) (v w : Vec Mark Global)
    → m < length ks → k ≡ get_or ks m k → m < length vs → v.items ≡ ordered mark_cmp ((get_or vs m w).items ++ leave_marks k.leave)
    → take (m + 1) (lists_in (set vs m v)) ++ closed (drop (m + 1) ks) (drop (m + 1) (lists_in (set vs m v)))
    ≡ take m (lists_in vs) ++ closed (drop m ks) (drop m (lists_in vs))
closed_more ks m k vs v w in_ks at in_vs e =
    let ls = lists_in vs in
    let within : m < length ls = let many = length-map vs (λ (u : Vec Mark Global). u.items) in omega arith in
    let now : lists_in (set vs m v) ≡ set ls m v.items = map-set (λ (u : Vec Mark Global). u.items) vs m v in
    let was : get_or ls m [] ≡ (get_or vs m w).items = get_or-map (λ (u : Vec Mark Global). u.items) vs m w [] in_vs in
    let first : v.items ≡ ordered mark_cmp (get_or ls m [] ++ leave_marks (get_or ks m k).leave) =
    e ∙ (λ i. ordered mark_cmp (sym was i ++ leave_marks (at i).leave)) in
    let rest : List (List Mark) = closed (drop (m + 1) ks) (drop (m + 1) ls) in
    let left : closed (drop m ks) (drop m ls) ≡ ordered mark_cmp (get_or ls m [] ++ leave_marks (get_or ks m k).leave) ∷ rest =
    (λ i. closed (drop_more ks m k in_ks i) (drop_more ls m [] within i)) in
    ap (λ ms. take (m + 1) ms ++ closed (drop (m + 1) ks) (drop (m + 1) ms)) now
    ∙ (λ i. take_more_set ls m v.items within i ++ closed (drop (m + 1) ks) (drop-set-lt (m + 1) ls m v.items (omega arith) i))
    ∙ append_assoc (take m ls) (v.items ∷ []) rest
    ∙ ap (λ ms. take m ls ++ ms) (ap (λ l. l ∷ rest) first ∙ sym left)

-- ---- all scripts

scripts_from : (s : PlainScenario) (m : ℕ) (ks : List MemberSpec) → ((j : ℕ) → slice_get s.members (m + j) ≡ slice_get ks j)
    → closed ks (with_each (λ n. report_marks n 0 s.sessions) m (with_each (λ n. draw_marks n 0 s.draws) m (joins_of ks)))
    ≡ map (script_of s) (range_with_len m (length ks))
unfolding script_of
scripts_from s m [] h = refl
scripts_from s m (k ∷ ks) h =
    let same : m + 0 ≡ m = omega arith in
    let at : slice_get s.members m ≡ Some k = ap (slice_get s.members) (sym same) ∙ h 0 in
    let next : (j : ℕ) → slice_get s.members ((m + 1) + j) ≡ slice_get ks j = λ j.
    let e : (m + 1) + j ≡ m + suc j = omega arith in ap (slice_get s.members) e ∙ h (suc j) in
    (λ i. ordered mark_cmp (marks_of s m (sym at i)) ∷ scripts_from s (m + 1) ks next i)

pub all_scripts : (s : PlainScenario) (ks : List MemberSpec) (ds : List DrawSpec) (rs : List SessionSpec)
    → ks ≡ s.members → ds ≡ s.draws → rs ≡ s.sessions
    → closed ks (with_each (λ n. report_marks n 0 rs) 0 (with_each (λ n. draw_marks n 0 ds) 0 (joins_of ks))) ≡ scripts_of s
all_scripts s ks ds rs by_members by_draws by_sessions =
    (λ i. closed (by_members i) (with_each (λ n. report_marks n 0 (by_sessions i)) 0
    (with_each (λ n. draw_marks n 0 (by_draws i)) 0 (joins_of (by_members i)))))
    ∙ scripts_from s 0 s.members (λ j. let e : 0 + j ≡ j = omega arith in ap (slice_get s.members) e)

pub all_rise : (s : PlainScenario) (vs : List (Vec Mark Global)) → lists_in vs ≡ scripts_of s → All (λ v. Rises mark_cmp v.items) vs
all_rise s vs e k v lt =
    let n = length s.members in
    let many : length vs ≡ n = sym (length-map vs (λ (u : Vec Mark Global). u.items)) ∙ ap length e
    ∙ length-map-range_with_len (script_of s) 0 n in
    let is : (get_or vs k v).items ≡ script_of s k = sym (get_or-map (λ (u : Vec Mark Global). u.items) vs k v [] lt)
    ∙ ap (λ ls. get_or ls k []) e ∙ get_or-map-range_with_len (script_of s) 0 n k k [] (omega arith) (omega arith) in
    subst (λ ms. Rises mark_cmp ms) (sym is) (scripts_rise s k)

-- ---- whose draws and session messages there are

pub drawers_within : (s : PlainScenario) → IsAccepted s → (ks : List MemberSpec) (ds : List DrawSpec) → ks ≡ s.members → ds ≡ s.draws
    → All (λ d. d.member < length ks) ds
drawers_within s a ks ds by_members by_draws =
    subst (λ (l : List MemberSpec). All (λ d. d.member < length l) ds) (sym by_members)
    (subst (λ (l : List DrawSpec). All (λ d. d.member < length s.members) l) (sym by_draws)
    (All-weaker (IsDraw s) (λ d. d.member < length s.members) (λ d is. slice_get_within s.members d.member is.0 is.1) s.draws a.draws))

pub senders_within : (s : PlainScenario) → IsAccepted s → (ks : List MemberSpec) (rs : List SessionSpec) → ks ≡ s.members → rs ≡ s.sessions
    → All (λ r. r.member < length ks) rs
senders_within s a ks rs by_members by_sessions =
    subst (λ (l : List MemberSpec). All (λ r. r.member < length l) rs) (sym by_members)
    (subst (λ (l : List SessionSpec). All (λ r. r.member < length s.members) l) (sym by_sessions)
    (All-weaker (IsSession s) (λ r. r.member < length s.members) (λ r is. slice_get_within s.members r.member is.0 is.1) s.sessions
    a.sessions))
