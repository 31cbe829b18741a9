-- What elements stand for, and how many that is.
use Rattle.std.proofs.Common.{◌≡◌, ℕ, zero, suc, ◌+◌, ◌-◌, ◌<◌, ◌≤◌, Bool, true, false, List, [], ◌∷◌, ◌++◌, length, map, flat_map, sum_by}
use Rattle.std.proofs.Common.{Option, Some, None, codes, slice_get, refl, sym, ap, subst, ◌∙◌, arith, append_assoc}
use Rattle.std.proofs.lemmas.Bool.{and_parts, false≢true}
use Rattle.std.proofs.Common.{drop, get_or}
use Rattle.std.proofs.lemmas.List.{length-append, drop_more}
use Rattle.toml.specs.View.{view}
use Rattle.toml.specs.declared.value.Value.{Value}
use Rattle.std.proofs.lemmas.List.Sums.{sum_by-cons}
use Rattle.std.specs.Prelude.{◌&&◌, if◌then◌else◌}
use Rattle.std.specs.List.{list_all, AllByRecursion}
use Rattle.std.specs.Option.{option_and_then}
use Rattle.toml.specs.Data.{Data, Members, string, integer, float, boolean, datetime, array, table, get_member}
use Rattle.srm_net.specs.Limits.{most_listed}
use Rattle.srm_scenario.specs.declared.entry.MemberEntry.{MemberEntry}
use Rattle.srm_scenario.specs.declared.fault.ScenarioFault.{ScenarioFault}
use Rattle.srm_scenario.specs.declared.fault.ScenarioFault.TheVariants.{BadKey}
use Rattle.srm_scenario.specs.declared.fault.Part.TheVariants as part
use Rattle.srm_scenario.specs.declared.file_key.FileKey.TheVariants as key
use Rattle.srm_scenario.specs.declared.parts.MemberSpec.{MemberSpec}
use Rattle.srm_scenario.specs.declared.rule.ValueKind.TheVariants.{Whole}
use Rattle.srm_scenario.specs.declared.rule.Need.TheVariants.{Refused}
use Rattle.srm_scenario.specs.declared.rule.Rule.{Rule}
use Rattle.srm_scenario.specs.declared.version.Version.{Version}
use Rattle.srm_scenario.specs.declared.version.Version.TheVariants.{One, Two, Three, Four, Five}
use Rattle.srm_scenario.specs.KeyLimits.{most_times}
use Rattle.srm_scenario.specs.Rules.{rule_if, meets, whole_number_of, times_repeated, times_said, fits_element, draw_rules, session_rules}
use Rattle.srm_scenario.specs.Described.{copies, repeated, every_of, table_of, draw_of, draw_copy, session_message_of, session_copy}
use Rattle.srm_scenario.specs.Described.{member_of, member_copy}
use Rattle.srm_scenario.specs.Faults.{fits_repeated, faults_of_draws, faults_of_sessions, draw_in_range, session_in_range, entry_of}
use Rattle.srm_scenario.specs.Faults.{entry_copy, entry_in_range, or_scope, faults_by, first}
use Rattle.srm_scenario.specs.LookUps.{FewElements}
use Rattle.srm_scenario.proofs.Acceptance.{none_by}
use Rattle.srm_scenario.proofs.KeyRanges.{rule_met}
use Rattle.srm_scenario.proofs.Placed.{all_append}

copies-length : {A : Type 0} (f : ℕ → A) (k n : ℕ) → length (copies f k n) ≡ n
copies-length f k zero = refl
copies-length f k (suc n) = ap suc (copies-length f (k + 1) n)

-- the copies from the k-th on are the k-th and those after it
pub next_copy : {A : Type 0} (f : ℕ → A) (k n : ℕ) → k < n → copies f k (n - k) ≡ f k ∷ copies f (k + 1) (n - (k + 1))
next_copy f k n lt = let more : n - k ≡ suc (n - (k + 1)) = omega arith in ap (copies f k) more

module _ {A : Type 0} (f : ℕ → A) (test : A → Bool) (k n : ℕ) (lt : k < n) where
  rest : List A
  rest = copies f (k + 1) (n - (k + 1))

  -- the copies from the k-th on do not pass a test that the k-th does not pass
  pub not_all : test (f k) ≡ false → list_all test (copies f k (n - k)) ≡ false
  unfolding rest
  not_all h = ap (list_all test) (next_copy f k n lt) ∙ ap (λ b. b && list_all test rest) h

  -- and where it passes, they do exactly where those after it do
  pub all_later : test (f k) ≡ true → list_all test (copies f (k + 1) (n - (k + 1))) ≡ list_all test (copies f k (n - k))
  unfolding rest
  all_later h = sym (ap (list_all test) (next_copy f k n lt) ∙ ap (λ b. b && list_all test rest) h)

  -- the k-th copy, and those after it
  pub with_next : (front : List A) (x : A) → x ≡ f k → (front ++ x ∷ []) ++ copies f (k + 1) (n - (k + 1)) ≡ front ++ copies f k (n - k)
  unfolding rest
  with_next front x is =
      append_assoc front (x ∷ []) rest ∙ ap (λ y. front ++ y ∷ rest) is ∙ ap (λ l. front ++ l) (sym (next_copy f k n lt))

-- a test by which something was kept or left out
pub left_out : {A : Type 0} (b : Bool) (x : A) (o : Option A) → o ≡ (if b then Some x else None) → o ≡ None → b ≡ false
left_out true x o h e = cc
left_out false x o h e = refl

pub kept : {A : Type 0} (b : Bool) (x y : A) (o : Option A) → o ≡ (if b then Some x else None) → o ≡ Some y → (b ≡ true) × (y ≡ x)
kept true x y o h e = let same : y ≡ x = cc in (refl, same)
kept false x y o h e = cc

module _ (vs : List Value) (i : ℕ) (v : Value) (lt : i < length vs) (is : v ≡ get_or vs i v) where
  next_value : drop i vs ≡ v ∷ drop (i + 1) vs
  next_value = drop_more vs i v lt ∙ ap (λ x. x ∷ drop (i + 1) vs) (sym is)

  -- the first fault of values is that of the next, where it fails the test
  pub next_fails : (fault : ℕ → ScenarioFault) (test : Data → Bool) → test (view v) ≡ false
      → first (faults_by fault test i (map view (drop i vs))) ≡ Some (fault i)
  next_fails fault test h =
      let rest : List ScenarioFault = faults_by fault test (i + 1) (map view (drop (i + 1) vs)) in
      ap (λ l. first (faults_by fault test i (map view l))) next_value ∙ ap (λ b. first (if b then rest else fault i ∷ rest)) h

  -- and where it passes, their faults are those of the values after it
  pub next_passes : (fault : ℕ → ScenarioFault) (test : Data → Bool) → test (view v) ≡ true
      → faults_by fault test (i + 1) (map view (drop (i + 1) vs)) ≡ faults_by fault test i (map view (drop i vs))
  next_passes fault test h =
      let rest : List ScenarioFault = faults_by fault test (i + 1) (map view (drop (i + 1) vs)) in
      sym (ap (λ l. faults_by fault test i (map view l)) next_value ∙ ap (λ b. if b then rest else fault i ∷ rest) h)

  -- what values stand for begins with what the next stands for
  pub next_made : {A : Type 0} (f : Value → List A) (front made : List A) → made ≡ f v
      → (front ++ made) ++ flat_map f (drop (i + 1) vs) ≡ front ++ flat_map f (drop i vs)
  next_made f front made same = grind (arith, append_assoc, next_value)

  -- what values are read as begins with what the next is read as
  pub next_read : {A : Type 0} (f : Value → A) (front : List A) (x : A) → x ≡ f v
      → (front ++ x ∷ []) ++ map f (drop (i + 1) vs) ≡ front ++ map f (drop i vs)
  next_read f front x is = grind (arith, append_assoc, next_value)

-- elements stand for as many as their counts say
stood : {A : Type 0} (copy : ℕ → ℕ → A → A) (reading : Members → A) (ds : List Data) → length (flat_map (repeated copy reading) ds)
    ≡ sum_by times_repeated ds
stood copy reading [] = refl
stood copy reading (d ∷ ds) =
    length-append (repeated copy reading d) (flat_map (repeated copy reading) ds)
    ∙ (λ i. copies-length (λ k. copy k (every_of d) (reading (table_of d))) 0 (times_repeated d) i + stood copy reading ds i)
    ∙ sym (sum_by-cons times_repeated d ds)

-- an element stands for itself alone where its rules refuse that it says otherwise
alone : (rules : List Rule) (n : ℕ) → slice_get rules n ≡ Some (rule_if false key.Times (Whole 1 most_times)) → (d : Data)
    → fits_element rules d ≡ true → times_repeated d ≡ 1
alone rules n e (table m) h = by (get_member (codes "times") m) (rule_met rules m h n (rule_if false key.Times (Whole 1 most_times)) e)
  where
    by : (o : Option Data) → meets Refused (Whole 1 most_times) o ≡ true → times_said (option_and_then whole_number_of o) ≡ 1
    by None r = refl
    by (Some x) r = absurd (false≢true r)
alone rules n e (integer t) h = absurd (false≢true h)
alone rules n e (string t) h = absurd (false≢true h)
alone rules n e (float t) h = absurd (false≢true h)
alone rules n e (boolean t) h = absurd (false≢true h)
alone rules n e (datetime t) h = absurd (false≢true h)
alone rules n e (array t) h = absurd (false≢true h)

all_alone : {A : Type 0} (rules : List Rule) (n : ℕ) (reading : Members → A) (copy : ℕ → ℕ → A → A) (in_range : A → Bool)
    → slice_get rules n ≡ Some (rule_if false key.Times (Whole 1 most_times)) → (ds : List Data)
    → AllByRecursion (λ d. fits_repeated rules reading copy in_range d ≡ true) ds → sum_by times_repeated ds ≡ length ds
all_alone rules n reading copy in_range e [] h = refl
all_alone rules n reading copy in_range e (d ∷ ds) h =
    let fits = (and_parts (fits_element rules d) (list_all in_range (repeated copy reading d)) h.0).0 in
    sum_by-cons times_repeated d ds ∙ (λ i. alone rules n e d fits i + all_alone rules n reading copy in_range e ds h.1 i)
    ∙ (let one : 1 + length ds ≡ suc (length ds) = omega arith in one)

few_alone : {A : Type 0} (rules : List Rule) (n : ℕ) (reading : Members → A) (copy : ℕ → ℕ → A → A) (in_range : A → Bool)
    → slice_get rules n ≡ Some (rule_if false key.Times (Whole 1 most_times)) → (ds : List Data)
    → AllByRecursion (λ d. fits_repeated rules reading copy in_range d ≡ true) ds → length ds ≤ most_listed
    → length (flat_map (repeated copy reading) ds) ≤ most_listed
few_alone rules n reading copy in_range e ds h few =
    subst (λ k. k ≤ most_listed) (sym (stood copy reading ds ∙ all_alone rules n reading copy in_range e ds h)) few

few_together : {A : Type 0} (reading : Members → A) (copy : ℕ → ℕ → A → A) (ds : List Data) → sum_by times_repeated ds ≤ most_listed
    → length (flat_map (repeated copy reading) ds) ≤ most_listed
few_together reading copy ds few = subst (λ k. k ≤ most_listed) (sym (stood copy reading ds)) few

-- draws that are no fault stand for few enough
pub few_draws : (v : Version) (ds : List Data) → FewElements v ds → faults_of_draws v ds ≡ []
    → length (flat_map (repeated draw_copy draw_of) ds) ≤ most_listed
few_draws One ds few none =
    few_alone (draw_rules One) 4 draw_of draw_copy draw_in_range refl ds (none_by (BadKey part.Draw) _ 0 ds none) (few.are refl)
few_draws Two ds few none =
    few_alone (draw_rules Two) 4 draw_of draw_copy draw_in_range refl ds (none_by (BadKey part.Draw) _ 0 ds none) (few.are refl)
few_draws Three ds few none = few_together draw_of draw_copy ds (few.stand_for refl)
few_draws Four ds few none = few_together draw_of draw_copy ds (few.stand_for refl)
few_draws Five ds few none = few_together draw_of draw_copy ds (few.stand_for refl)

-- and session messages
pub few_sessions : (v : Version) (ds : List Data) → FewElements v ds → faults_of_sessions v ds ≡ []
    → length (flat_map (repeated session_copy session_message_of) ds) ≤ most_listed
few_sessions One ds few none =
    few_alone (session_rules One) 2 session_message_of session_copy session_in_range refl ds (none_by (BadKey part.Session) _ 0 ds none)
    (few.are refl)
few_sessions Two ds few none =
    few_alone (session_rules Two) 2 session_message_of session_copy session_in_range refl ds (none_by (BadKey part.Session) _ 0 ds none)
    (few.are refl)
few_sessions Three ds few none = few_together session_message_of session_copy ds (few.stand_for refl)
few_sessions Four ds few none = few_together session_message_of session_copy ds (few.stand_for refl)
few_sessions Five ds few none = few_together session_message_of session_copy ds (few.stand_for refl)

-- ---- what holds of each copy

copies_all : {A : Type 0} (P : A → Type 0) (f : ℕ → A) (test : A → Bool) → ((k : ℕ) → test (f k) ≡ true → P (f k)) → (k n : ℕ)
    → list_all test (copies f k n) ≡ true → AllByRecursion P (copies f k n)
copies_all P f test each k zero h = tt
copies_all P f test each k (suc n) h =
    let (one, rest) = and_parts (test (f k)) (list_all test (copies f (k + 1) n)) h in
    (each k one, copies_all P f test each (k + 1) n rest)

-- what holds of each copy in range of an element that fits the rules holds of all for which elements without a fault stand
pub stand_for_all : {A : Type 0} (P : A → Type 0) (rules : List Rule) (reading : Members → A) (copy : ℕ → ℕ → A → A) (in_range : A → Bool)
    → ((d : Data) → fits_element rules d ≡ true → (k every : ℕ) → in_range (copy k every (reading (table_of d))) ≡ true
    → P (copy k every (reading (table_of d)))) → (ds : List Data)
    → AllByRecursion (λ d. fits_repeated rules reading copy in_range d ≡ true) ds → AllByRecursion P (flat_map (repeated copy reading) ds)
stand_for_all P rules reading copy in_range each [] h = tt
stand_for_all P rules reading copy in_range each (d ∷ ds) h =
    let (fits, range) = and_parts (fits_element rules d) (list_all in_range (repeated copy reading d)) h.0 in
    all_append P (repeated copy reading d) (flat_map (repeated copy reading) ds)
    (copies_all P (λ k. copy k (every_of d) (reading (table_of d))) in_range (λ k r. each d fits k (every_of d) r) 0 (times_repeated d)
    range) (stand_for_all P rules reading copy in_range each ds h.1)

-- ---- members

map_join : {A B : Type 0} (f : A → B) (xs ys : List A) → map f (xs ++ ys) ≡ map f xs ++ map f ys
map_join f [] ys = refl
map_join f (x ∷ xs) ys = ap (λ l. f x ∷ l) (map_join f xs ys)

copies_spec : (every : ℕ) (e : MemberEntry) (k n : ℕ) → map (λ x. x.spec) (copies (λ j. entry_copy j every e) k n)
    ≡ copies (λ j. member_copy j every e.spec) k n
copies_spec every e k zero = refl
copies_spec every e k (suc n) = ap (λ (l : List MemberSpec). member_copy k every e.spec ∷ l) (copies_spec every e (k + 1) n)

-- the members for which elements stand, without what is only needed to read them
pub stand_for_members : (scope : ℕ) (ds : List Data) → map (λ e. e.spec) (flat_map (repeated entry_copy (entry_of scope)) ds)
    ≡ flat_map (repeated member_copy (member_of scope)) ds
stand_for_members scope [] = refl
stand_for_members scope (d ∷ ds) =
    map_join (λ e. e.spec) (repeated entry_copy (entry_of scope) d) (flat_map (repeated entry_copy (entry_of scope)) ds)
    ∙ (λ i. copies_spec (every_of d) (entry_of scope (table_of d)) 0 (times_repeated d) i ++ stand_for_members scope ds i)

-- a copy of a member that is read from its own table, with a scope for where it has none, is that of the member with this scope
one_scoped : (scope k every : ℕ) (ms : Members)
    → or_scope scope (entry_copy k every (entry_of 0 ms)) ≡ entry_copy k every (entry_of scope ms)
one_scoped scope k every ms = grind arith

copies_scoped : (scope every : ℕ) (ms : Members) (k n : ℕ) → map (or_scope scope) (copies (λ j. entry_copy j every (entry_of 0 ms)) k n)
    ≡ copies (λ j. entry_copy j every (entry_of scope ms)) k n
copies_scoped scope every ms k zero = refl
copies_scoped scope every ms k (suc n) =
    λ i. one_scoped scope k every ms i ∷ copies_scoped scope every ms (k + 1) n i

-- members that are read from their own tables, with a scope for those that have none, are the members with this scope
pub members_scoped : (scope : ℕ) (ds : List Data)
    → map (or_scope scope) (flat_map (repeated entry_copy (entry_of 0)) ds) ≡ flat_map (repeated entry_copy (entry_of scope)) ds
members_scoped scope [] = refl
members_scoped scope (d ∷ ds) =
    map_join (or_scope scope) (repeated entry_copy (entry_of 0) d) (flat_map (repeated entry_copy (entry_of 0)) ds)
    ∙ (λ i. copies_scoped scope (every_of d) (table_of d) 0 (times_repeated d) i ++ members_scoped scope ds i)

-- whether members are in range does not hang on their scope
range_copies : (scope every : ℕ) (ms : Members) (k n : ℕ) → list_all entry_in_range (copies (λ j. entry_copy j every (entry_of 0 ms)) k n)
    ≡ list_all entry_in_range (copies (λ j. entry_copy j every (entry_of scope ms)) k n)
range_copies scope every ms k zero = refl
range_copies scope every ms k (suc n) =
    ap (λ b. entry_in_range (entry_copy k every (entry_of 0 ms)) && b) (range_copies scope every ms (k + 1) n)

pub fits_scoped : (scope : ℕ) (rules : List Rule) (ds : List Data)
    → AllByRecursion (λ d. fits_repeated rules (entry_of 0) entry_copy entry_in_range d ≡ true) ds
    → AllByRecursion (λ d. fits_repeated rules (entry_of scope) entry_copy entry_in_range d ≡ true) ds
fits_scoped scope rules [] h = tt
fits_scoped scope rules (d ∷ ds) h = (
  sym (ap (λ b. fits_element rules d && b) (range_copies scope (every_of d) (table_of d) 0 (times_repeated d))) ∙ h.0,
  fits_scoped scope rules ds h.1,
)
