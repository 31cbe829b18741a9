-- The answer for a text, from that for its table.
use Rattle.std.proofs.Common.{◌≡◌, ◌⊎◌, ℕ, ◌+◌, ◌<◌, ◌≤◌, Bool, true, false, cond, List, [], ◌∷◌, ◌++◌, length, Option, Some, None, Result}
use Rattle.std.proofs.Common.{Ok, Err, sym, ap, ◌∙◌, subst, arith, inl, inr}
use Rattle.std.proofs.lemmas.Str.{is_utf8-from_IsUtf8, IsUtf8-from_is_utf8}
use Rattle.std.specs.Prelude.{IfOk, IfErr, IfSome, IsUtf8, nat_lt}
use Rattle.std.specs.List.{AllByRecursion}
use Rattle.std.specs.Str.{is_utf8}
use Rattle.toml.specs.Data.{Members}
use Rattle.toml.specs.Parse.{parse_document}
use Rattle.srm_scenario.specs.declared.entry.MemberEntry.{MemberEntry}
use Rattle.srm_scenario.specs.declared.fault.ScenarioFault.{ScenarioFault}
use Rattle.srm_scenario.specs.declared.fault.ScenarioFault.TheVariants.{NoMemory, ReadFault, TooLong, NotToml, BadKey, NotTree, BadMember}
use Rattle.srm_scenario.specs.declared.fault.ScenarioFault.TheVariants.{BadDraw, BadSession, BadDrop, BadOutage, BadLoss}
use Rattle.srm_net.specs.declared.link.DropSpec.{DropSpec}
use Rattle.srm_scenario.specs.Faults.{fault_unless, faults_by, member_faults, fits_member}
use Rattle.srm_scenario.specs.Faults.{key_faults, meaning_faults, faults_of}
use Rattle.srm_scenario.specs.Faults.{scenario_of_table, scenario_of_document, scenario_of_text, failures_after, AnswersText}
use Rattle.srm_scenario.specs.Accepted.{IsAccepted}
use Rattle.srm_scenario.specs.Plain.{PlainScenario}
use Rattle.srm_scenario.proofs.TableAnswers.{table_accepted}

short_text : (text : List ℕ) → length text ≤ 1048576 → scenario_of_text text
    ≡ cond (is_utf8 text) (scenario_of_document (parse_document text)) (Err NotToml)
unfolding scenario_of_text
short_text text h = grind arith

read_text : (text : List ℕ) (o : Option Members) → length text ≤ 1048576 → is_utf8 text ≡ true → parse_document text ≡ o
    → scenario_of_text text ≡ scenario_of_document o
read_text text o h u p =
    short_text text h ∙ ap (λ b. cond b (scenario_of_document (parse_document text)) (Err NotToml)) u ∙ ap scenario_of_document p

pub text_ok : (text : List ℕ) (ms : Members) (r : Result PlainScenario ScenarioFault) → length text ≤ 1048576 → IsUtf8 text
    → parse_document text ≡ Some ms
    → IfOk r (λ s. scenario_of_table ms ≡ Ok s) → IfOk r (λ s. scenario_of_text text ≡ Ok s)
text_ok text ms (Ok s) h u p e = read_text text (Some ms) h (is_utf8-from_IsUtf8 text u) p ∙ e
text_ok text ms (Err f) h u p e = tt

pub text_err : (text : List ℕ) (ms : Members) (r : Result PlainScenario ScenarioFault) → length text ≤ 1048576 → IsUtf8 text
    → parse_document text ≡ Some ms
    → IfErr r (λ e. (e ≡ NoMemory) ⊎ (scenario_of_table ms ≡ Err e)) → IfErr r (λ e. (e ≡ NoMemory) ⊎ (scenario_of_text text ≡ Err e))
text_err text ms r h u p e = grind (arith, read_text, is_utf8-from_IsUtf8)

pub not_toml : (text : List ℕ) → length text ≤ 1048576 → (IsUtf8 text → parse_document text ≡ None) → scenario_of_text text ≡ Err NotToml
not_toml text h none = grind (arith, IsUtf8-from_is_utf8, short_text)

pub too_long : (text : List ℕ) → 1048576 < length text → scenario_of_text text ≡ Err TooLong
unfolding scenario_of_text
too_long text h = grind arith

-- ---- no text is answered by a fault of the feed

IsOfText : ScenarioFault → Type 0
IsOfText ReadFault = ⊥
IsOfText TooLong = Unit {0}
IsOfText NotToml = Unit {0}
IsOfText (BadKey p i) = Unit {0}
IsOfText NotTree = Unit {0}
IsOfText (BadMember i) = Unit {0}
IsOfText (BadDraw i) = Unit {0}
IsOfText (BadSession i) = Unit {0}
IsOfText (BadDrop i) = Unit {0}
IsOfText (BadOutage i) = Unit {0}
IsOfText (BadLoss i) = Unit {0}
IsOfText NoMemory = Unit {0}

all_append : (xs ys : List ScenarioFault) → AllByRecursion IsOfText xs → AllByRecursion IsOfText ys → AllByRecursion IsOfText (xs ++ ys)
all_append [] ys h g = g
all_append (x ∷ xs) ys h g = (h.0, all_append xs ys h.1 g)

of_unless : (b : Bool) (f : ScenarioFault) → IsOfText f → AllByRecursion IsOfText (fault_unless b f)
of_unless true f h = tt
of_unless false f h = (h, tt)

of_cond : (b : Bool) (f : ScenarioFault) (fs : List ScenarioFault) → IsOfText f → AllByRecursion IsOfText fs
    → AllByRecursion IsOfText (cond b fs (f ∷ fs))
of_cond true f fs h g = g
of_cond false f fs h g = (h, g)

of_faults_by : {A : Type 0} (fault : ℕ → ScenarioFault) (test : A → Bool) (i : ℕ) (xs : List A) → ((k : ℕ) → IsOfText (fault k))
    → AllByRecursion IsOfText (faults_by fault test i xs)
of_faults_by fault test i [] h = tt
of_faults_by fault test i (x ∷ xs) h = of_cond (test x) (fault i) (faults_by fault test (i + 1) xs) (h i)
    (of_faults_by fault test (i + 1) xs h)

of_members : (until nodes : ℕ) (star : Bool) (earlier : List MemberEntry) (i : ℕ) (es : List MemberEntry)
    → AllByRecursion IsOfText (member_faults until nodes star earlier i es)
unfolding IsOfText
of_members until nodes star earlier i [] = tt
of_members until nodes star earlier i (e ∷ es) =
    all_append (fault_unless (fits_member until nodes star earlier e) (BadMember i)) _
    (of_unless (fits_member until nodes star earlier e) (BadMember i) tt)
    (of_members until nodes star (earlier ++ e ∷ []) (i + 1) es)

key_all : (ms : Members) → AllByRecursion IsOfText (key_faults ms)
unfolding IsOfText key_faults
key_all ms = grind (arith, all_append, of_unless, of_faults_by)

meaning_all : (s : PlainScenario) (star : Bool) (entries : List MemberEntry) (listed : List DropSpec)
    → AllByRecursion IsOfText (meaning_faults s star entries listed)
unfolding IsOfText meaning_faults
meaning_all s star entries listed = grind (arith, all_append, of_members, of_faults_by)

of_table : (ms : Members) (e : ScenarioFault) → scenario_of_table ms ≡ Err e → IsOfText e
unfolding faults_of scenario_of_table
of_table ms e is = grind (arith, all_append, key_all, meaning_all)

of_document : (o : Option Members) (e : ScenarioFault) → scenario_of_document o ≡ Err e → IsOfText e
unfolding IsOfText
of_document None e is = let same : NotToml ≡ e = cc in subst (λ t. IsOfText t) same tt
of_document (Some ms) e is = of_table ms e is

of_choice : (b : Bool) (o : Option Members) (e : ScenarioFault) → cond b (scenario_of_document o) (Err NotToml) ≡ Err e → IsOfText e
unfolding IsOfText
of_choice true o e is = of_document o e is
of_choice false o e is = let same : NotToml ≡ e = cc in subst (λ t. IsOfText t) same tt

not_of_feed : (e : ScenarioFault) → IsOfText e → e ≡ ReadFault → ⊥
unfolding IsOfText
not_of_feed e h is = subst (λ t. IsOfText t) is h

same_count : (r : Result PlainScenario ScenarioFault) (n : ℕ) → (r ≡ Err ReadFault → ⊥) → failures_after r n ≡ n
same_count r n h = grind arith

not_feed_fault : (text : List ℕ) (r : Result PlainScenario ScenarioFault)
    → length text ≤ 1048576 → IfErr r (λ e. (e ≡ NoMemory) ⊎ (scenario_of_text text ≡ Err e)) → r ≡ Err ReadFault → ⊥
not_feed_fault text (Ok s) h f is = cc
not_feed_fault text (Err e) h (inl memory) is = cc
not_feed_fault text (Err e) h (inr told) is =
    let same : e ≡ ReadFault = cc in
    not_of_feed e (of_choice (is_utf8 text) (parse_document text) e (sym (short_text text h) ∙ told)) same

-- a text that was read answers no fault of the feed
pub count_stays : (text : List ℕ) (r : Result PlainScenario ScenarioFault) (n : ℕ) → length text ≤ 1048576
    → IfErr r (λ e. (e ≡ NoMemory) ⊎ (scenario_of_text text ≡ Err e)) → n ≡ failures_after r n
count_stays text r n h f = sym (same_count r n (not_feed_fault text r h f))

pub long_known : (known : Option (List ℕ)) → IfSome known (λ bytes. 1048576 < length bytes) → IfSome known (AnswersText (Err TooLong))
long_known None h = tt
long_known (Some bytes) h = too_long bytes h

-- ---- what a text is answered with is accepted

document_accepted : (o : Option Members) (p : PlainScenario) → scenario_of_document o ≡ Ok p → IsAccepted p
document_accepted None p h = cc
document_accepted (Some ms) p h = table_accepted ms p h

utf8_accepted : (b : Bool) (o : Option Members) (p : PlainScenario) → cond b (scenario_of_document o) (Err NotToml) ≡ Ok p
    → IsAccepted p
utf8_accepted true o p h = document_accepted o p h
utf8_accepted false o p h = cc

pub text_accepted : (text : List ℕ) (p : PlainScenario) → scenario_of_text text ≡ Ok p → IsAccepted p
unfolding scenario_of_text
text_accepted text p h = by (nat_lt 1048576 (length text)) h
  where
    by : (b : Bool) → cond b (Err TooLong) (cond (is_utf8 text) (scenario_of_document (parse_document text)) (Err NotToml)) ≡ Ok p
        → IsAccepted p
    by true e = cc
    by false e = utf8_accepted (is_utf8 text) (parse_document text) p e
