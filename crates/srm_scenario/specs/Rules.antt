-- The keys of a scenario file: what each may hold, and whether it must be there, in each version of the format.
use Rattle.std.specs.Prelude.{ℕ, suc, ◌+◌, ◌-◌, pos, Bool, true, false, not, ◌&&◌, ◌||◌, List, [], ◌∷◌, ◌++◌}
use Rattle.std.specs.Prelude.{Option, Some, None, codes, map, nat_le, ◌==◌, if◌then◌else◌}
use Rattle.std.specs.List.{list_any, list_all}
use Rattle.std.specs.Option.{option_and_then}
use Rattle.std.specs.Str.{bytes_eq}
use Rattle.srm_scenario.specs.declared.version.Version.{Version}
use Rattle.srm_scenario.specs.declared.version.Version.TheVariants.{One, Two, Three, Four, Five}
use Rattle.toml.specs.Data.{Data, Items, Members, integer, string, array, table, no_items, item, no_members, member}
use Rattle.toml.specs.Data.{get_member}
use Rattle.srm_net.specs.Limits.{end_of_time, greatest_constant}
use Rattle.srm_scenario.specs.declared.parts.Constants.{Constants}
use Rattle.srm_scenario.specs.declared.form.Form.{Form}
use Rattle.srm_scenario.specs.declared.file_key.FileKey.{FileKey}
use Rattle.srm_scenario.specs.declared.file_key.FileKey.TheVariants as key
use Rattle.srm_scenario.specs.declared.rule.ValueKind.{ValueKind}
use Rattle.srm_scenario.specs.declared.rule.ValueKind.TheVariants.{Whole, Word, Numbers, Each, Elements, Repeated}
use Rattle.srm_scenario.specs.declared.rule.Need.{Need}
use Rattle.srm_scenario.specs.declared.rule.Need.TheVariants.{Required, Optional, Refused}
use Rattle.srm_scenario.specs.declared.rule.Rule.{Rule}
use Rattle.srm_scenario.specs.declared.rule.Words.{Words}
use Rattle.srm_scenario.specs.declared.rule.Words.TheVariants.{Roles, Topologies, TopologiesAndParents}
use Rattle.srm_scenario.specs.Keys.{name_of}
use Rattle.srm_scenario.specs.KeyLimits.{greatest_delay, greatest_limit, greatest_rate, last_count, last_ink, last_page}
use Rattle.srm_scenario.specs.KeyLimits.{last_stream}
use Rattle.srm_scenario.specs.KeyLimits.{most_pages, most_times, greatest_scope, most_tries}

-- the words of a set, one of which a key may hold
abbrev pub spellings_of : Words → List (List ℕ)
spellings_of Roles = codes "sender" ∷ codes "receiver" ∷ codes "late" ∷ codes "listener" ∷ []
spellings_of Topologies = codes "chain" ∷ codes "star" ∷ codes "tree" ∷ []
spellings_of TopologiesAndParents = codes "chain" ∷ codes "star" ∷ codes "tree" ∷ codes "parents" ∷ []

-- what the format says of one key
abbrev pub rule : FileKey → ValueKind → Need → Rule
rule key kind need = record { key = key; kind = kind; need = need }

-- ---- what differs between the versions

-- how many nodes there are at most, and how many members, each of which has a node of its own
abbrev pub most_nodes_in : Version → ℕ
most_nodes_in One = 256
most_nodes_in Two = 1024
most_nodes_in Three = 65535
most_nodes_in Four = 65535
most_nodes_in Five = 65535

-- the last number that a node, a link or a member may have
abbrev pub last_number : Version → ℕ
last_number version = most_nodes_in version - 1

-- how many draws there are at most, and how many session messages, drops, outages and losses, of each
-- kind
abbrev pub most_listed_in : Version → ℕ
most_listed_in One = 4096
most_listed_in Two = 4096
most_listed_in Three = 65535
most_listed_in Four = 65535
most_listed_in Five = 65535

-- whether links may have a second delay
abbrev pub allows_back : Version → Bool
allows_back One = false
allows_back Two = true
allows_back Three = true
allows_back Four = true
allows_back Five = true

-- whether links may have outages
abbrev pub allows_outages : Version → Bool
allows_outages One = false
allows_outages Two = true
allows_outages Three = true
allows_outages Four = true
allows_outages Five = true

-- whether links may lose packets at random
abbrev pub allows_losses : Version → Bool
allows_losses One = false
allows_losses Two = false
allows_losses Three = false
allows_losses Four = true
allows_losses Five = true

-- whether losses may come in bursts
abbrev pub allows_bursts : Version → Bool
allows_bursts One = false
allows_bursts Two = false
allows_bursts Three = false
allows_bursts Four = false
allows_bursts Five = true

-- whether requests may have scopes
abbrev pub allows_scopes : Version → Bool
allows_scopes One = false
allows_scopes Two = false
allows_scopes Three = false
allows_scopes Four = false
allows_scopes Five = true

-- whether members may adapt the constants of their timers
abbrev pub allows_limits : Version → Bool
allows_limits One = false
allows_limits Two = false
allows_limits Three = true
allows_limits Four = true
allows_limits Five = true

-- whether the parents of nodes may be given in place of links
abbrev pub allows_parents : Version → Bool
allows_parents One = false
allows_parents Two = false
allows_parents Three = true
allows_parents Four = true
allows_parents Five = true

-- whether an element may stand for several
abbrev pub allows_repetition : Version → Bool
allows_repetition One = false
allows_repetition Two = false
allows_repetition Three = true
allows_repetition Four = true
allows_repetition Five = true

-- the greatest first value of a constant of timers, in thousandths
abbrev pub greatest_constant_in : Version → ℕ
greatest_constant_in One = greatest_constant
greatest_constant_in Two = greatest_constant
greatest_constant_in Three = greatest_limit
greatest_constant_in Four = greatest_limit
greatest_constant_in Five = greatest_limit

-- ---- the table of the format

-- the number of a node, a link or a member
abbrev pub index_rule : FileKey → Version → Rule
index_rule k version = rule k (Whole 0 (last_number version)) Required

-- the first value of a constant of timers
abbrev pub constant_rule : FileKey → Version → Rule
constant_rule k version = rule k (Whole 0 (greatest_constant_in version)) Required

-- numbers of the top table
abbrev pub number_rules : Version → List Rule
number_rules version =
    rule key.Version (Whole 1 5) Required
    ∷ rule key.Until (Whole 1 end_of_time) Required
    ∷ constant_rule key.C1 version
    ∷ constant_rule key.C2 version
    ∷ constant_rule key.D1 version
    ∷ constant_rule key.D2 version
    ∷ []

-- a key that a version has or has not
abbrev pub rule_if : Bool → FileKey → ValueKind → Rule
rule_if allowed k kind = rule k kind (if allowed then Optional else Refused)

-- the least and the greatest value of each constant of timers, beside its first value, and the factor of backoffs
abbrev pub limit_rules : Bool → Constants → List Rule
limit_rules allowed first =
    rule_if allowed key.C1Least (Whole 0 first.c1)
    ∷ rule_if allowed key.C2Least (Whole 0 first.c2)
    ∷ rule_if allowed key.D1Least (Whole 0 first.d1)
    ∷ rule_if allowed key.D2Least (Whole 0 first.d2)
    ∷ rule_if allowed key.C1Most (Whole first.c1 greatest_limit)
    ∷ rule_if allowed key.C2Most (Whole first.c2 greatest_limit)
    ∷ rule_if allowed key.D1Most (Whole first.d1 greatest_limit)
    ∷ rule_if allowed key.D2Most (Whole first.d2 greatest_limit)
    ∷ rule_if allowed key.Backoff (Whole 2 3)
    ∷ []

-- the scope of a request, at the top table for all members and at a member for its own
abbrev pub scope_rule : Version → Rule
scope_rule version = rule_if (allows_scopes version) key.Scope (Whole 0 greatest_scope)

-- local recovery: the scope of requests, by how much each backoff widens it, after how many there is none, and in how
-- many steps repairs go
abbrev pub recovery_rules : Version → List Rule
recovery_rules version =
    scope_rule version
    ∷ rule_if (allows_scopes version) key.Widen (Whole 0 greatest_scope)
    ∷ rule_if (allows_scopes version) key.Tries (Whole 1 most_tries)
    ∷ rule_if (allows_scopes version) key.Steps (Whole 1 2)
    ∷ []

-- the topology that the top table names, and the degree of its tree
abbrev pub topologies_in : Version → Words
topologies_in version = if allows_parents version then TopologiesAndParents else Topologies

abbrev pub topology_rule : Version → Rule
topology_rule version = rule key.Topology (Word (topologies_in version)) Optional

abbrev pub degree_rule : Version → Bool → Rule
degree_rule version tree = rule key.Degree (Whole 2 (last_number version)) (if tree then Required else Refused)

-- the second delay of a link, or of each link of a topology
abbrev pub back_rule : Bool → Rule
back_rule allowed = rule_if allowed key.Back (Whole 1 greatest_delay)

-- a key that must be there in one case, and must not in the other
abbrev pub rule_where : Bool → FileKey → ValueKind → Rule
rule_where here k kind = rule k kind (if here then Required else Refused)

-- nodes and links, in a top table of this form
abbrev pub shape_rules : Version → Form → List Rule
shape_rules version form =
    rule_where (not form.shaped) key.Nodes (Whole 1 (most_nodes_in version))
    ∷ topology_rule version
    ∷ rule_where form.sized key.Size (Whole 1 (most_nodes_in version))
    ∷ rule_where (form.sized || (form.parents && not form.delays)) key.Delay (Whole 1 greatest_delay)
    ∷ back_rule ((form.sized || (form.parents && not form.backs)) && allows_back version)
    ∷ degree_rule version form.tree
    ∷ rule_if (not form.shaped) key.Link (Elements (last_number version))
    ∷ []

-- the parents of nodes 1, 2, .., and of the link to each the delays from the parent and back
abbrev pub parent_rules : Version → Form → List Rule
parent_rules version form =
    rule_where form.parents key.Parent (Numbers (last_number version) (last_number version))
    ∷ rule_if form.parents key.Delays (Each form.listed 1 greatest_delay)
    ∷ rule_if form.parents key.Backs (Each form.listed 1 greatest_delay)
    ∷ []

-- at most so many elements, each of which may stand for several in some versions
abbrev pub elements_in : Version → ℕ → ValueKind
elements_in version most = if allows_repetition version then Repeated most else Elements most

-- at most as many as may be listed
abbrev pub listed_in : Version → ValueKind
listed_in version = elements_in version (most_listed_in version)

-- the other arrays of the top table
abbrev pub array_rules : Version → List Rule
array_rules version =
    rule key.Member (elements_in version (most_nodes_in version)) Optional
    ∷ rule key.Draw (listed_in version) Optional
    ∷ rule key.Session (listed_in version) Optional
    ∷ rule key.Drop (listed_in version) Optional
    ∷ rule_if (allows_outages version) key.Outage (listed_in version)
    ∷ rule_if (allows_losses version) key.Loss (listed_in version)
    ∷ []

-- the top table, of this form and with these first values of the constants
abbrev pub top_rules : Version → Constants → Form → List Rule
top_rules version first form =
    number_rules version
    ++ (limit_rules (allows_limits version) first
    ++ (recovery_rules version ++ (shape_rules version form ++ (array_rules version ++ parent_rules version form))))

abbrev pub link_rules : Version → List Rule
link_rules version =
    index_rule key.A version
    ∷ index_rule key.B version
    ∷ rule key.Delay (Whole 1 greatest_delay) Required
    ∷ back_rule (allows_back version)
    ∷ []

-- for how many elements one stands, and how far apart they are
abbrev pub repeat_rules : Version → List Rule
repeat_rules version =
    rule_if (allows_repetition version) key.Times (Whole 1 most_times)
    ∷ rule_if (allows_repetition version) key.Every (Whole 0 end_of_time)
    ∷ []

-- the rules of two keys of a member
abbrev pub role_rule : Rule
role_rule = rule key.Role (Word Roles) Required

abbrev pub pages_rule : Rule
pages_rule = rule key.Pages (Numbers most_pages last_page) Optional

abbrev pub member_rules : Version → List Rule
member_rules version =
    index_rule key.Node version
    ∷ role_rule
    ∷ rule key.Stream (Whole 0 last_stream) Required
    ∷ rule key.Join (Whole 0 end_of_time) Optional
    ∷ rule key.Leave (Whole 1 end_of_time) Optional
    ∷ pages_rule
    ∷ scope_rule version
    ∷ repeat_rules version

abbrev pub draw_rules : Version → List Rule
draw_rules version =
    index_rule key.Member version
    ∷ rule key.Page (Whole 0 last_page) Required
    ∷ rule key.Ink (Whole 0 last_ink) Required
    ∷ rule key.At (Whole 0 end_of_time) Required
    ∷ repeat_rules version

abbrev pub session_rules : Version → List Rule
session_rules version =
    index_rule key.Member version
    ∷ rule key.At (Whole 0 end_of_time) Required
    ∷ repeat_rules version

abbrev pub drop_rules : Version → List Rule
drop_rules version =
    index_rule key.Link version
    ∷ index_rule key.Sender version
    ∷ rule key.Count (Whole 0 last_count) Required
    ∷ repeat_rules version

abbrev pub outage_rules : Version → List Rule
outage_rules version =
    index_rule key.Link version
    ∷ rule key.From (Whole 0 end_of_time) Required
    ∷ rule key.To (Whole 1 end_of_time) Required
    ∷ repeat_rules version

abbrev pub loss_rules : Version → List Rule
loss_rules version =
    index_rule key.Link version
    ∷ rule key.Rate (Whole 1 greatest_rate) Required
    ∷ rule key.Stream (Whole 0 last_stream) Optional
    ∷ rule key.From (Whole 0 end_of_time) Optional
    ∷ rule key.To (Whole 1 end_of_time) Optional
    ∷ rule_if (allows_bursts version) key.Burst (Whole 1 end_of_time)
    ∷ repeat_rules version

-- ---- whether a table meets rules

-- the value is a whole number from low to high
abbrev pub is_whole : ℕ → ℕ → Data → Bool
is_whole low high (integer (pos n)) = nat_le low n && nat_le n high
is_whole low high d = false

-- the value is this text
abbrev pub is_text : List ℕ → Data → Bool
is_text w (string s) = bytes_eq s w
is_text w d = false

-- how many items there are
abbrev pub count_items : Items → ℕ
count_items no_items = 0
count_items (item d ds) = suc (count_items ds)

-- each item is a whole number from low to high
abbrev pub all_whole : ℕ → ℕ → Items → Bool
all_whole low high no_items = true
all_whole low high (item d ds) = is_whole low high d && all_whole low high ds

-- the whole number that a value is
abbrev pub whole_number_of : Data → Option ℕ
whole_number_of (integer (pos n)) = Some n
whole_number_of d = None

-- the whole number at a key, if there is one
abbrev pub optional_number : List ℕ → Members → Option ℕ
optional_number key ms = option_and_then whole_number_of (get_member key ms)

-- for how many elements one stands: for as many as its `times` says, and for itself alone where that does not say so
-- rightly
abbrev pub times_said : Option ℕ → ℕ
times_said (Some n) = if nat_le 1 n && nat_le n most_times then n else 1
times_said None = 1

abbrev pub times_repeated : Data → ℕ
times_repeated (table ms) = times_said (optional_number (codes "times") ms)
times_repeated d = 1

-- for how many elements these stand together
abbrev pub count_made : Items → ℕ
count_made no_items = 0
count_made (item d ds) = times_repeated d + count_made ds

-- the value is of this kind
abbrev pub is_kind : ValueKind → Data → Bool
is_kind (Whole low high) d = is_whole low high d
is_kind (Word ws) d = list_any (λ w. is_text w d) (spellings_of ws)
is_kind (Numbers most high) (array ds) = nat_le (count_items ds) most && all_whole 0 high ds
is_kind (Each count low high) (array ds) = (count_items ds == count) && all_whole low high ds
is_kind (Elements most) (array ds) = nat_le (count_items ds) most
is_kind (Repeated most) (array ds) = nat_le (count_made ds) most
is_kind k d = false

-- what stands at a key, if anything, is as it must be
abbrev pub meets : Need → ValueKind → Option Data → Bool
meets Required k None = false
meets Required k (Some d) = is_kind k d
meets Optional k None = true
meets Optional k (Some d) = is_kind k d
meets Refused k None = true
meets Refused k (Some d) = false

abbrev pub is_met : Members → Rule → Bool
is_met ms r = meets r.need r.kind (get_member (name_of r.key) ms)

-- the table has no keys but these
abbrev pub has_only : List (List ℕ) → Members → Bool
has_only keys no_members = true
has_only keys (member k d ms) = list_any (λ key. bytes_eq key k) keys && has_only keys ms

-- the table has no unknown key, and each rule is met
abbrev pub fits_rules : List Rule → Members → Bool
fits_rules rules ms = has_only (map (λ r. name_of r.key) rules) ms && list_all (is_met ms) rules

-- the value is a table that fits the rules
abbrev pub fits_element : List Rule → Data → Bool
fits_element rules (table ms) = fits_rules rules ms
fits_element rules d = false
