-- What is wrong with a table or a text that is to be a scenario, and the scenario where nothing is.
use Rattle.std.specs.Prelude.{⊤, ◌≡◌, ◌⊎◌, ℕ, ◌+◌, Bool, true, false, not, ◌&&◌, ◌||◌, List, [], ◌∷◌, ◌++◌, Option}
use Rattle.std.specs.Prelude.{Some, None, Result, Ok, Err, is_some, codes, length, slice_get, nat_le, nat_lt, ◌==◌}
use Rattle.std.specs.Prelude.{if◌then◌else◌}
use Rattle.std.specs.List.{list_any, list_all}
use Rattle.std.specs.Io.KnownBytes.{IsAtEnd}
use Rattle.std.specs.Str.{is_utf8}
use Rattle.toml.specs.Data.{Data, Members, get_member}
use Rattle.toml.specs.Parse.{parse_document}
use Rattle.srm_net.specs.Roles.{is_sender, is_late, is_listener}
use Rattle.srm_net.specs.declared.link.DropSpec.{DropSpec}
use Rattle.srm_net.specs.declared.link.OutageSpec.{OutageSpec}
use Rattle.srm_net.specs.declared.link.LossSpec.{LossSpec}
use Rattle.srm_net.specs.Losses.{is_before_end}
use Rattle.srm_scenario.specs.declared.fault.Part.{Part}
use Rattle.srm_scenario.specs.declared.fault.Part.TheVariants as part
use Rattle.srm_scenario.specs.declared.fault.ScenarioFault.{ScenarioFault}
use Rattle.srm_scenario.specs.declared.fault.ScenarioFault.TheVariants.{NoMemory, ReadFault, TooLong, NotToml, BadKey}
use Rattle.srm_scenario.specs.declared.fault.ScenarioFault.TheVariants.{NotTree, BadMember, BadDraw, BadSession}
use Rattle.srm_scenario.specs.declared.fault.ScenarioFault.TheVariants.{BadDrop, BadOutage, BadLoss}
use Rattle.srm_scenario.specs.declared.entry.MemberEntry.{MemberEntry}
use Rattle.srm_scenario.specs.declared.parts.MemberSpec.{MemberSpec}
use Rattle.srm_scenario.specs.declared.parts.DrawSpec.{DrawSpec}
use Rattle.srm_scenario.specs.declared.parts.SessionSpec.{SessionSpec}
use Rattle.srm_scenario.specs.declared.topology.Topology.{Topology}
use Rattle.srm_scenario.specs.declared.topology.Topology.TheVariants.{Star}
use Rattle.srm_scenario.specs.Plain.{PlainScenario, network_of}
use Rattle.srm_scenario.specs.Trees.{is_tree}
use Rattle.srm_scenario.specs.declared.rule.Rule.{Rule}
use Rattle.srm_scenario.specs.Rules.{top_rules, link_rules, member_rules, draw_rules, session_rules, drop_rules}
use Rattle.srm_scenario.specs.Rules.{outage_rules, loss_rules, fits_rules, fits_element}
use Rattle.srm_scenario.specs.Presence.{is_present}
use Rattle.srm_scenario.specs.Described.{version_of, member_of, array_at, table_of, repeated_at, topology_of, form_of}
use Rattle.srm_scenario.specs.Described.{constants_of, listed_drops, described_scenario, repeated, member_copy}
use Rattle.srm_scenario.specs.Described.{draw_of, draw_copy, session_message_of, session_copy, drop_of, drop_copy}
use Rattle.srm_scenario.specs.Described.{outage_of, outage_copy, loss_of, loss_copy, number}
use Rattle.srm_scenario.specs.declared.version.Version.{Version}
use Rattle.srm_scenario.specs.KeyLimits.{last_count, last_stream}
use Rattle.srm_net.specs.Limits.{end_of_time, most_links}

-- one fault for each element that fails a test, at its place, the first element being at place i
abbrev pub faults_by : {A : Type 0} → (ℕ → ScenarioFault) → (A → Bool) → ℕ → List A → List ScenarioFault
faults_by fault test i [] = []
faults_by fault test i (x ∷ xs) =
    if test x then faults_by fault test (i + 1) xs else fault i ∷ faults_by fault test (i + 1) xs

-- the fault, if the test fails
abbrev pub fault_unless : Bool → ScenarioFault → List ScenarioFault
fault_unless b fault = if b then [] else fault ∷ []

-- the first fault, if there is one
abbrev pub first : List ScenarioFault → Option ScenarioFault
first [] = None
first (fault ∷ faults) = Some fault

-- memory ran out, or this is the first of the faults
abbrev pub IsFault : ScenarioFault → List ScenarioFault → Type 0
IsFault e faults = (e ≡ NoMemory) ⊎ (first faults ≡ Some e)

-- ---- faults of keys

-- what a table that fits rules is read as
abbrev pub accepted : {A : Type 0} → List Rule → (Members → A) → Members → Option A
accepted rules reading ms = if fits_rules rules ms then Some (reading ms) else None

-- what a table that fits rules is read as, where the value is one
abbrev pub accepted_element : {A : Type 0} → List Rule → (Members → A) → Data → Option A
accepted_element rules reading d = if fits_element rules d then Some (reading (table_of d)) else None

-- the top table's rules, by its version, the first values of the constants, and what it says of its network
abbrev pub rules_of_top : Members → List Rule
rules_of_top ms = top_rules (version_of ms) (constants_of ms) (form_of ms)

abbrev pub top_faults : Members → List ScenarioFault
top_faults ms = fault_unless (fits_rules (rules_of_top ms) ms) (BadKey part.Top 0)

abbrev pub element_faults : Part → List Rule → List Data → List ScenarioFault
element_faults p rules ds = faults_by (BadKey p) (fits_element rules) 0 ds

-- ---- faults of elements that may stand for several

-- a table that fits the rules, and each element for which it stands is in range
abbrev pub fits_repeated : {A : Type 0} → List Rule → (Members → A) → (ℕ → ℕ → A → A) → (A → Bool) → Data → Bool
fits_repeated rules reading copy in_range d = fits_element rules d && list_all in_range (repeated copy reading d)

abbrev pub repeated_faults : {A : Type 0} → Part → List Rule → (Members → A) → (ℕ → ℕ → A → A) → (A → Bool) → List Data
    → List ScenarioFault
repeated_faults p rules reading copy in_range ds =
    faults_by (BadKey p) (fits_repeated rules reading copy in_range) 0 ds

-- a member, which has this scope where it has none of its own, and whether pages and a scope are given for it
abbrev pub entry_of : ℕ → Members → MemberEntry
entry_of scope ms = record {
  spec = member_of scope ms;
  has_pages = is_some (get_member (codes "pages") ms);
  has_scope = is_some (get_member (codes "scope") ms);
}

-- the copies of what is read of a member
abbrev pub entry_copy : ℕ → ℕ → MemberEntry → MemberEntry
entry_copy k every e = record {
  spec = member_copy k every e.spec;
  has_pages = e.has_pages;
  has_scope = e.has_scope;
}

-- the same member, which has this scope where none is given for it
abbrev pub or_scope : ℕ → MemberEntry → MemberEntry
or_scope scope e =
    if e.has_scope
    then e
    else record {
      spec = record {
        node = e.spec.node;
        role = e.spec.role;
        stream = e.spec.stream;
        join = e.spec.join;
        leave = e.spec.leave;
        pages = e.spec.pages;
        scope = scope;
      };
      has_pages = e.has_pages;
      has_scope = e.has_scope;
    }

-- the members of a table, those that have no scope of their own with that of the top table
abbrev pub entries_in : Members → List MemberEntry
entries_in ms = repeated_at (codes "member") entry_copy (entry_of (number (codes "scope") ms)) ms

-- the numbers that rise from copy to copy do not pass the ranges of their keys
abbrev pub entry_in_range : MemberEntry → Bool
entry_in_range e = nat_le e.spec.node most_links && nat_le e.spec.stream last_stream

abbrev pub draw_in_range : DrawSpec → Bool
draw_in_range d = nat_le d.at end_of_time

abbrev pub session_in_range : SessionSpec → Bool
session_in_range r = nat_le r.at end_of_time

abbrev pub drop_in_range : DropSpec → Bool
drop_in_range d = nat_le d.id.count last_count

abbrev pub outage_in_range : OutageSpec → Bool
outage_in_range o = nat_le o.from end_of_time && nat_le o.to end_of_time

abbrev pub loss_in_range : LossSpec → Bool
loss_in_range o = nat_le o.link most_links

-- the faults of the elements at a key, in this version
abbrev pub faults_of_links : Version → List Data → List ScenarioFault
faults_of_links version ds = element_faults part.Link (link_rules version) ds

abbrev pub faults_of_members : Version → List Data → List ScenarioFault
faults_of_members version ds =
    repeated_faults part.Member (member_rules version) (entry_of 0) entry_copy entry_in_range ds

abbrev pub faults_of_draws : Version → List Data → List ScenarioFault
faults_of_draws version ds = repeated_faults part.Draw (draw_rules version) draw_of draw_copy draw_in_range ds

abbrev pub faults_of_sessions : Version → List Data → List ScenarioFault
faults_of_sessions version ds =
    repeated_faults part.Session (session_rules version) session_message_of session_copy session_in_range ds

abbrev pub faults_of_drops : Version → List Data → List ScenarioFault
faults_of_drops version ds = repeated_faults part.Drop (drop_rules version) drop_of drop_copy drop_in_range ds

abbrev pub faults_of_outages : Version → List Data → List ScenarioFault
faults_of_outages version ds =
    repeated_faults part.Outage (outage_rules version) outage_of outage_copy outage_in_range ds

abbrev pub faults_of_losses : Version → List Data → List ScenarioFault
faults_of_losses version ds = repeated_faults part.Loss (loss_rules version) loss_of loss_copy loss_in_range ds

-- ---- faults of meaning

-- the member is there at this time, before the end of the run
abbrev pub is_there : ℕ → ℕ → MemberSpec → Bool
is_there until at k = is_present k.join k.leave until at

abbrev pub is_star : Option Topology → Bool
is_star (Some Star) = true
is_star t = false

abbrev pub leaves_after : ℕ → Option ℕ → Bool
leaves_after join None = true
leaves_after join (Some end) = nat_lt join end

-- whether one of these members is on the node
abbrev pub is_taken : List MemberEntry → ℕ → Bool
is_taken es node = list_any (λ e. e.spec.node == node) es

-- its node is a node of the network, not the hub of a star, and not that of an earlier member; it joins before the end
-- of the run, and before it leaves; pages are given for a late member alone; and no scope is given for a listener,
-- which asks for nothing
abbrev pub fits_member : ℕ → ℕ → Bool → List MemberEntry → MemberEntry → Bool
fits_member until nodes star earlier e =
    let k = e.spec in
    nat_lt k.node nodes
    && not (star && (k.node == 0))
    && not (is_taken earlier k.node)
    && nat_lt k.join until
    && leaves_after k.join k.leave
    && (not e.has_pages || is_late k.role)
    && (not e.has_scope || not (is_listener k.role))

-- the faults of members from place i on, after the earlier ones
abbrev pub member_faults : ℕ → ℕ → Bool → List MemberEntry → ℕ → List MemberEntry → List ScenarioFault
member_faults until nodes star earlier i [] = []
member_faults until nodes star earlier i (e ∷ es) =
    fault_unless (fits_member until nodes star earlier e) (BadMember i)
    ++ member_faults until nodes star (earlier ++ e ∷ []) (i + 1) es

abbrev pub if_member : Option MemberSpec → (MemberSpec → Bool) → Bool
if_member None test = false
if_member (Some k) test = test k

-- a draw is by a sender that is there
abbrev pub fits_draw : ℕ → List MemberSpec → DrawSpec → Bool
fits_draw until members d = if_member (slice_get members d.member) (λ k. is_sender k.role && is_there until d.at k)

-- a session message is by a member that is there and is no listener
abbrev pub fits_session : ℕ → List MemberSpec → SessionSpec → Bool
fits_session until members r = if_member (slice_get members r.member)
    (λ k. not (is_listener k.role) && is_there until r.at k)

-- a drop names a link and a member
abbrev pub fits_drop : ℕ → ℕ → DropSpec → Bool
fits_drop links members d = nat_lt d.link links && nat_lt d.id.sender members

-- an outage is of a link, and ends after it begins
abbrev pub fits_outage : ℕ → OutageSpec → Bool
fits_outage links o = nat_lt o.link links && nat_lt o.from o.to

-- a loss is of a link, and ends after it begins, where it ends
abbrev pub fits_loss : ℕ → LossSpec → Bool
fits_loss links o = nat_lt o.link links && is_before_end o.to o.from

-- ---- the answer

-- all lists, one after the other
abbrev pub all_of : List (List ScenarioFault) → List ScenarioFault
all_of [] = []
all_of (fs ∷ rest) = fs ++ all_of rest

-- the faults of the keys of a table, part by part
unfoldable pub key_faults : Members → List ScenarioFault
key_faults ms =
    all_of (
    top_faults ms
    ∷ faults_of_links (version_of ms) (array_at (codes "link") ms)
    ∷ faults_of_members (version_of ms) (array_at (codes "member") ms)
    ∷ faults_of_draws (version_of ms) (array_at (codes "draw") ms)
    ∷ faults_of_sessions (version_of ms) (array_at (codes "session") ms)
    ∷ faults_of_drops (version_of ms) (array_at (codes "drop") ms)
    ∷ faults_of_outages (version_of ms) (array_at (codes "outage") ms)
    ∷ faults_of_losses (version_of ms) (array_at (codes "loss") ms)
    ∷ [])

-- the faults of what a table describes: a scenario, whether its topology is a star, its members with whether pages and
-- scopes are given for them, and its drops as they are listed
unfoldable pub meaning_faults : PlainScenario → Bool → List MemberEntry → List DropSpec → List ScenarioFault
meaning_faults s star entries listed =
    all_of (
    fault_unless (is_tree (network_of s)) NotTree
    ∷ member_faults s.until s.nodes star [] 0 entries
    ∷ faults_by BadDraw (fits_draw s.until s.members) 0 s.draws
    ∷ faults_by BadSession (fits_session s.until s.members) 0 s.sessions
    ∷ faults_by BadDrop (fits_drop (length s.links) (length s.members)) 0 listed
    ∷ faults_by BadOutage (fits_outage (length s.links)) 0 s.drops.outages
    ∷ faults_by BadLoss (fits_loss (length s.links)) 0 s.drops.losses
    ∷ [])

-- all faults of a table, in the order in which they are told
unfoldable pub faults_of : Members → List ScenarioFault
faults_of ms =
    key_faults ms ++ meaning_faults (described_scenario ms) (is_star (topology_of ms))
    (entries_in ms) (listed_drops ms)

-- the scenario, or the first of the faults
abbrev pub answer : List ScenarioFault → PlainScenario → Result PlainScenario ScenarioFault
answer [] s = Ok s
answer (fault ∷ faults) s = Err fault

-- the scenario of a table, or the first of its faults
unfoldable pub scenario_of_table : Members → Result PlainScenario ScenarioFault
scenario_of_table ms = answer (faults_of ms) (described_scenario ms)

abbrev pub scenario_of_document : Option Members → Result PlainScenario ScenarioFault
scenario_of_document None = Err NotToml
scenario_of_document (Some ms) = scenario_of_table ms

-- the scenario of a text, or its first fault
unfoldable pub scenario_of_text : List ℕ → Result PlainScenario ScenarioFault
scenario_of_text text =
    if nat_lt 1048576 (length text)
    then Err TooLong
    else if is_utf8 text then scenario_of_document (parse_document text) else Err NotToml

-- ---- what a read leaves

-- the count of a feed's failures after a scenario was read from it: one more exactly where the answer is that it failed
abbrev pub failures_after : Result PlainScenario ScenarioFault → ℕ → ℕ
failures_after (Err ReadFault) n = n + 1
failures_after r n = n

-- the answer is that of a text, unless the feed failed or memory ran out
abbrev pub AnswersText : Result PlainScenario ScenarioFault → List ℕ → Type 0
AnswersText (Ok s) text = scenario_of_text text ≡ Ok s
AnswersText (Err ReadFault) text = ⊤
AnswersText (Err NoMemory) text = ⊤
AnswersText (Err e) text = scenario_of_text text ≡ Err e

-- a text is refused with its first fault, unless memory ran out
abbrev pub RefusesText : ScenarioFault → List ℕ → Type 0
RefusesText e text = (e ≡ NoMemory) ⊎ (scenario_of_text text ≡ Err e)

-- where a text was read whole, no byte is left to come: so it is for a scenario, and for each fault that is one of its
-- text
abbrev pub ReadsToEnd : Result PlainScenario ScenarioFault → Option (List ℕ) → Type 0
ReadsToEnd (Err ReadFault) left = ⊤
ReadsToEnd (Err TooLong) left = ⊤
ReadsToEnd (Err NoMemory) left = ⊤
ReadsToEnd r left = IsAtEnd left
