-- The ranges of a file's keys are those of the scenario.
use Rattle.std.proofs.Common.{◌≡◌, ℕ, zero, suc, ◌+◌, ◌-◌, Bool, true, false, List, [], ◌∷◌, map, Option, Some}
use Rattle.std.proofs.Common.{None, is_some, unwrap_or, codes, refl, subst, arith, length, slice_get}
use Rattle.std.proofs.Common.{◌<◌, ◌≤◌}
use Rattle.std.proofs.lemmas.Bool.{and_parts}
use Rattle.std.proofs.lemmas.List.{length-map}
use Rattle.std.specs.List.{AllByRecursion}
use Rattle.std.specs.Option.{option_and_then}
use Rattle.toml.specs.Data.{Data, Items, Members, no_items, item, get_member}
use Rattle.srm_net.specs.Network.{IsLinkDelay, HasDelays}
use Rattle.srm_scenario.specs.declared.entry.MemberEntry.{MemberEntry}
use Rattle.srm_scenario.specs.declared.parts.MemberSpec.{MemberSpec}
use Rattle.srm_scenario.specs.declared.fault.Part.{Part}
use Rattle.srm_scenario.specs.declared.fault.ScenarioFault.TheVariants.{BadKey}
use Rattle.srm_scenario.specs.declared.draft.Draft.{Draft}
use Rattle.srm_scenario.specs.declared.delays.Delays.{Delays}
use Rattle.srm_scenario.specs.declared.topology.Topology.{Topology}
use Rattle.srm_scenario.specs.declared.version.Version.{Version}
use Rattle.srm_scenario.specs.declared.file_key.FileKey.TheVariants as key
use Rattle.srm_scenario.specs.declared.file_key.FileKey.{FileKey}
use Rattle.srm_scenario.specs.declared.rule.ValueKind.TheVariants.{Whole, Each}
use Rattle.srm_scenario.specs.declared.rule.Need.TheVariants.{Optional}
use Rattle.srm_scenario.specs.declared.rule.Rule.{Rule}
use Rattle.srm_scenario.specs.KeyLimits.{greatest_delay, greatest_scope, last_stream}
use Rattle.srm_scenario.specs.Rules.{rule, rule_if, allows_back, back_rule, is_met, fits_rules, fits_element, link_rules}
use Rattle.srm_scenario.specs.Rules.{member_rules, scope_rule, all_whole, count_items, is_whole, optional_number}
use Rattle.srm_scenario.specs.Keys.{name_of}
use Rattle.srm_scenario.specs.Described.{version_of, whole_number_of, number, array_at, table_of}
use Rattle.srm_scenario.specs.Described.{link_of, elements_at, links_to_parents, described_scenario}
use Rattle.srm_scenario.specs.Described.{items_list, names_parents, number_at, values_at, delay_at, back_delay_at, links_from}
use Rattle.srm_scenario.specs.Described.{given_links, links_in, delays_of, topology_of, scope_of}
use Rattle.srm_scenario.specs.Faults.{element_faults, entries_in, entry_of, entry_copy, entry_in_range, fits_repeated, key_faults}
use Rattle.srm_scenario.specs.Faults.{top_faults}
use Rattle.srm_scenario.specs.Faults.{faults_of_links, faults_of_members, faults_of_draws, faults_of_sessions, rules_of_top}
use Rattle.srm_scenario.specs.LookUps.{AreDelays}
use Rattle.srm_scenario.specs.Drafts.{IsDraft, plain_of}
use Rattle.srm_scenario.specs.Ranges.{MemberInRange, HasItsPages, InRange}
use Rattle.srm_scenario.proofs.Acceptance.{empty_parts, none_by, unless_true}
use Rattle.srm_scenario.proofs.Repetition.{few_draws, few_sessions, fits_scoped, stand_for_all, stand_for_members}
use Rattle.srm_scenario.proofs.TopFits.{until_fits, constants_fit, delays_fit, delays_met, backs_met, one_delay, one_back, draws_fit}
use Rattle.srm_scenario.proofs.TopFits.{recovery_fits, scope_fits, sessions_fit}
use Rattle.srm_scenario.proofs.KeyRanges.{number_fits, optional_bound, or_fits, rule_met, whole_number, back_fits}
use Rattle.srm_net.specs.Limits.{end_of_time}

-- ---- elements

one_read : {A : Type 0} (P : A → Type 0) (reading : Members → A) (rules : List Rule)
    → ((m : Members) → fits_rules rules m ≡ true → P (reading m)) → (d : Data) → fits_element rules d ≡ true → P (reading (table_of d))
one_read P reading rules f d h = grind arith

all_read : {A : Type 0} (P : A → Type 0) (reading : Members → A) (rules : List Rule)
    → ((m : Members) → fits_rules rules m ≡ true → P (reading m)) → (ds : List Data)
    → AllByRecursion (λ d. fits_element rules d ≡ true) ds → AllByRecursion P (map (λ d. reading (table_of d)) ds)
all_read P reading rules f [] h = tt
all_read P reading rules f (d ∷ ds) h = (one_read P reading rules f d h.0, all_read P reading rules f ds h.1)

-- what holds of each table that fits the rules holds of what elements without a fault are read as
read_elements : {A : Type 0} (P : A → Type 0) (p : Part) (reading : Members → A) (rules : List Rule)
    → ((m : Members) → fits_rules rules m ≡ true → P (reading m)) → (ds : List Data)
    → element_faults p rules ds ≡ [] → AllByRecursion P (map (λ d. reading (table_of d)) ds)
read_elements P p reading rules f ds h = all_read P reading rules f ds (none_by (BadKey p) (fits_element rules) 0 ds h)

link_delay : (v : Version) (m : Members) → fits_rules (link_rules v) m ≡ true → HasDelays (link_of m)
link_delay v m h =
    let there = number_fits (link_rules v) m h 2 key.Delay 1 greatest_delay refl in
    (there, back_fits m (allows_back v) (rule_met (link_rules v) m h 3 (back_rule (allows_back v)) refl) there)

scope_range : (v : Version) (scope : ℕ) (m : Members) → is_met m (scope_rule v) ≡ true → scope ≤ greatest_scope
    → scope_of scope m ≤ greatest_scope
scope_range v scope m h few = grind (arith, or_fits)

member_range : (v : Version) (scope : ℕ) (m : Members) → scope ≤ greatest_scope → fits_rules (member_rules v) m ≡ true
    → MemberInRange (entry_of scope m).spec
member_range v scope m most h =
    let few = number_fits (member_rules v) m h 2 key.Stream 0 last_stream refl in
    record {
      stream = omega (arith, few.1);
      leave = optional_bound key.Leave 1 end_of_time m
          (rule_met (member_rules v) m h 4 (rule key.Leave (Whole 1 end_of_time) Optional) refl);
      scope = scope_range v scope m (rule_met (member_rules v) m h 6 (scope_rule v) refl) most;
    }

pages_own : (v : Version) (scope : ℕ) (m : Members) → fits_rules (member_rules v) m ≡ true → HasItsPages (entry_of scope m)
pages_own v scope m h none = grind arith

all_spec : (es : List MemberEntry) → AllByRecursion (λ e. MemberInRange e.spec) es → AllByRecursion MemberInRange (map (λ e. e.spec) es)
all_spec [] h = tt
all_spec (e ∷ es) h = (h.0, all_spec es h.1)

-- ---- links of a topology

parents_delay : (t : Topology) (delays : Delays) (v n : ℕ) → IsLinkDelay delays.delay × IsLinkDelay delays.back
    → AllByRecursion HasDelays (links_to_parents t delays v n)
parents_delay t delays v zero h = tt
parents_delay t delays v (suc n) h = (h, parents_delay t delays (v + 1) n h)

-- the delays of the links that a table describes, of a topology or as they are given
described_delays : (ms : Members) (o : Option Topology) → AreDelays o (delays_of ms) → AllByRecursion HasDelays (given_links ms)
    → AllByRecursion HasDelays (links_in o ms)
described_delays ms None h all = all
described_delays ms (Some t) h all = parents_delay t (delays_of ms) 1 (number (codes "size") ms - 1) h

-- ---- links to parents

each_fits : (low high : ℕ) (ds : Items) (k : ℕ) → all_whole low high ds ≡ true → k < count_items ds
    → (low ≤ unwrap_or (option_and_then whole_number_of (slice_get (items_list ds) k)) 0)
    × (unwrap_or (option_and_then whole_number_of (slice_get (items_list ds) k)) 0 ≤ high)
each_fits low high no_items k h lt = absurd (omega arith)
each_fits low high (item d ds) zero h lt = whole_number low high 0 d (and_parts (is_whole low high d) (all_whole low high ds) h).0
each_fits low high (item d ds) (suc k) h lt =
    each_fits low high ds k (and_parts (is_whole low high d) (all_whole low high ds) h).1 (omega arith)

-- the number at a place of a list that has one for each link, or else another delay
delay_in : (allowed : Bool) (k : FileKey) (n : ℕ) (ms : Members) → is_met ms (rule_if allowed k (Each n 1 greatest_delay)) ≡ true
    → (i other : ℕ) → i < n → (is_some (get_member (name_of k) ms) ≡ false → IsLinkDelay other)
    → IsLinkDelay (number_at (values_at (name_of k) ms) i other)
delay_in allowed k n ms h i other lt f = grind (arith, each_fits)

module _ (ms : Members) (h : fits_rules (rules_of_top ms) ms ≡ true) (p : names_parents ms ≡ true) where
  abbrev count : ℕ
  count = length (array_at (codes "parent") ms)

  there_fits : (k : ℕ) → k < count → IsLinkDelay (delay_at ms k)
  there_fits k lt = delay_in (names_parents ms) key.Delays count ms (delays_met ms h) k (number (codes "delay") ms) lt (one_delay ms h p)

  home_fits : (k : ℕ) → k < count → IsLinkDelay (back_delay_at ms k)
  home_fits k lt =
      delay_in (names_parents ms) key.Backs count ms (backs_met ms h) k (unwrap_or (optional_number (codes "back") ms) (delay_at ms k)) lt
      (λ none. one_back ms h (delay_at ms k) (there_fits k lt))

  parent_delays : (k : ℕ) (ps : List ℕ) → k + length ps ≤ count → AllByRecursion HasDelays (links_from ms k ps)
  parent_delays k [] le = tt
  parent_delays k (x ∷ ps) le =
      ((there_fits k (omega arith), home_fits k (omega arith)), parent_delays (k + 1) ps (omega arith))

given_delays : (ms : Members) → fits_rules (rules_of_top ms) ms ≡ true → AllByRecursion HasDelays (elements_at (codes "link") link_of ms)
    → AllByRecursion HasDelays (given_links ms)
given_delays ms h listed = grind (arith, parent_delays, length-map)

-- ---- all together

top_part : (ms : Members) → key_faults ms ≡ [] → fits_rules (rules_of_top ms) ms ≡ true
unfolding key_faults
top_part ms h = unless_true (fits_rules (rules_of_top ms) ms) _ (empty_parts (top_faults ms) _ h).0

link_part : (ms : Members) → key_faults ms ≡ [] → faults_of_links (version_of ms) (array_at (codes "link") ms) ≡ []
unfolding key_faults
link_part ms h =
    let p = empty_parts (top_faults ms) _ h in
    (empty_parts (faults_of_links (version_of ms) (array_at (codes "link") ms)) _ p.1).0

member_part : (ms : Members) → key_faults ms ≡ [] → faults_of_members (version_of ms) (array_at (codes "member") ms) ≡ []
unfolding key_faults
member_part ms h = grind (arith, empty_parts)

draw_part : (ms : Members) → key_faults ms ≡ [] → faults_of_draws (version_of ms) (array_at (codes "draw") ms) ≡ []
unfolding key_faults
draw_part ms h = grind (arith, empty_parts)

session_part : (ms : Members) → key_faults ms ≡ [] → faults_of_sessions (version_of ms) (array_at (codes "session") ms) ≡ []
unfolding key_faults
session_part ms h = grind (arith, empty_parts)

-- what holds of each copy in range of an entry holds of all members
all_entries : (P : MemberEntry → Type 0) (ms : Members) → key_faults ms ≡ []
    → ((d : Data) → fits_element (member_rules (version_of ms)) d ≡ true → (k every : ℕ)
    → entry_in_range (entry_copy k every (entry_of (number (codes "scope") ms) (table_of d))) ≡ true
    → P (entry_copy k every (entry_of (number (codes "scope") ms) (table_of d)))) → AllByRecursion P (entries_in ms)
all_entries P ms h each =
    let rules : List Rule = member_rules (version_of ms) in
    let scope = number (codes "scope") ms in
    stand_for_all P rules (entry_of scope) entry_copy entry_in_range each (array_at (codes "member") ms)
    (fits_scoped scope rules (array_at (codes "member") ms)
    (none_by (BadKey Rattle.srm_scenario.specs.declared.fault.Part.TheVariants.Member)
    (fits_repeated rules (entry_of 0) entry_copy entry_in_range) 0 (array_at (codes "member") ms) (member_part ms h)))

copy_range : (v : Version) (scope : ℕ) → scope ≤ greatest_scope → (d : Data) → fits_element (member_rules v) d ≡ true → (k every : ℕ)
    → entry_in_range (entry_copy k every (entry_of scope (table_of d))) ≡ true
    → MemberInRange (entry_copy k every (entry_of scope (table_of d))).spec
copy_range v scope most d h k every range = grind (arith, member_range)

-- the scenario that a table describes is in range where no key is a fault
pub described_range : (ms : Members) → key_faults ms ≡ [] → InRange (described_scenario ms)
unfolding described_scenario
described_range ms h =
    let top = top_part ms h in
    let until = until_fits ms top in
    let links : AllByRecursion HasDelays (given_links ms) =
    given_delays ms top (read_elements HasDelays _ link_of (link_rules (version_of ms)) (link_delay (version_of ms)) _ (link_part ms h)) in
    let members : AllByRecursion (λ e. MemberInRange e.spec) (entries_in ms) =
    all_entries (λ e. MemberInRange e.spec) ms h (copy_range (version_of ms) (number (codes "scope") ms) (scope_fits ms top)) in
    record {
      some_ticks = until.0;
      few_ticks = until.1;
      constants = constants_fit ms top;
      recovery = recovery_fits ms top;
      delays = described_delays ms (topology_of ms) (delays_fit ms top) links;
      members = subst (λ (ks : List MemberSpec). AllByRecursion MemberInRange ks)
          (stand_for_members (number (codes "scope") ms) (array_at (codes "member") ms)) (all_spec _ members);
      few_draws = few_draws (version_of ms) (array_at (codes "draw") ms) (draws_fit ms top) (draw_part ms h);
      few_sessions = few_sessions (version_of ms) (array_at (codes "session") ms) (sessions_fit ms top) (session_part ms h);
    }

-- and its members have no pages where none are given for them
pub described_pages : (ms : Members) → key_faults ms ≡ []
    → AllByRecursion HasItsPages (entries_in ms)
described_pages ms h =
    all_entries HasItsPages ms h
    (λ d fits k every range. one_read HasItsPages (entry_of (number (codes "scope") ms)) (member_rules (version_of ms))
    (pages_own (version_of ms) (number (codes "scope") ms)) d fits)

-- what the table describes is the scenario of what it lists
pub described_is : (ms : Members) (l : Draft) → IsDraft ms l → described_scenario ms ≡ plain_of l
unfolding described_scenario plain_of
described_is ms l h = grind (arith, stand_for_members)

pub listed_range : (ms : Members) (l : Draft) → IsDraft ms l → InRange (plain_of l)
listed_range ms l h = subst InRange (described_is ms l h) (described_range ms h.no_fault)

pub listed_pages : (ms : Members) (l : Draft) → IsDraft ms l → AllByRecursion HasItsPages l.members.items
listed_pages ms l h =
    subst (λ (es : List MemberEntry). AllByRecursion HasItsPages es) h.members (described_pages ms h.no_fault)
