-- The scenario that a table describes, wherever its keys are as the format asks.
use Rattle.std.specs.Prelude.{ℕ, zero, suc, ◌+◌, ◌-◌, ◌*◌, ◌/◌, Bool, false, ◌||◌, List, [], ◌∷◌, Option, Some, None}
use Rattle.std.specs.Prelude.{unwrap_or, is_some, codes, map, flat_map, length, slice_get, nat_le, ◌==◌}
use Rattle.std.specs.Prelude.{if◌then◌else◌}
use Rattle.std.specs.Option.{option_and_then}
use Rattle.toml.specs.Data.{Data, Items, Members, array, table, no_items, item, no_members, get_member}
use Rattle.srm_net.specs.declared.role.Role.{Role}
use Rattle.srm_net.specs.declared.role.Role.TheVariants.{Sender, Receiver, Late, Listener}
use Rattle.srm_net.specs.declared.link.LinkSpec.{LinkSpec}
use Rattle.srm_net.specs.declared.link.DropSpec.{DropSpec}
use Rattle.srm_net.specs.declared.link.OutageSpec.{OutageSpec}
use Rattle.srm_net.specs.declared.link.LossSpec.{LossSpec}
use Rattle.srm_scenario.specs.declared.parts.Constants.{Constants}
use Rattle.srm_scenario.specs.declared.parts.Room.{Room}
use Rattle.srm_scenario.specs.declared.parts.LocalRecovery.{LocalRecovery}
use Rattle.srm_scenario.specs.declared.parts.MemberSpec.{MemberSpec}
use Rattle.srm_scenario.specs.declared.parts.DrawSpec.{DrawSpec}
use Rattle.srm_scenario.specs.declared.parts.SessionSpec.{SessionSpec}
use Rattle.srm_scenario.specs.declared.delays.Delays.{Delays}
use Rattle.srm_scenario.specs.declared.form.Form.{Form}
use Rattle.srm_scenario.specs.declared.version.Version.{Version}
use Rattle.srm_scenario.specs.declared.version.Version.TheVariants.{One, Two, Three, Four, Five}
use Rattle.srm_scenario.specs.declared.topology.Topology.{Topology}
use Rattle.srm_scenario.specs.declared.topology.Topology.TheVariants.{Chain, Star, Tree}
use Rattle.srm_scenario.specs.Plain.{PlainScenario, drop_rules_of}
pub use Rattle.srm_scenario.specs.Rules.{whole_number_of, optional_number}
use Rattle.srm_scenario.specs.Rules.{is_text, times_repeated}

-- ---- values

-- the whole number at a key, or 0
abbrev pub number : List ℕ → Members → ℕ
number key ms = unwrap_or (optional_number key ms) 0

abbrev pub is_text_or : List ℕ → Option Data → Bool
is_text_or w None = false
is_text_or w (Some d) = is_text w d

-- the whole number at a key, or that at another key where there is none
abbrev pub number_or : List ℕ → List ℕ → Members → ℕ
number_or key other ms = unwrap_or (optional_number key ms) (number other ms)

-- whether this word stands at a key
abbrev pub says : List ℕ → List ℕ → Members → Bool
says key w ms = is_text_or w (get_member key ms)

-- the values of an array
abbrev pub items_list : Items → List Data
items_list no_items = []
items_list (item d ds) = d ∷ items_list ds

abbrev pub array_of : Option Data → List Data
array_of (Some (array ds)) = items_list ds
array_of d = []

-- the values of the array at a key
abbrev pub array_at : List ℕ → Members → List Data
array_at key ms = array_of (get_member key ms)

abbrev pub table_of : Data → Members
table_of (table ms) = ms
table_of d = no_members

-- the version of the format that a file names
abbrev pub version_of : Members → Version
version_of ms =
    if number (codes "version") ms == 5
    then Five
    else if number (codes "version") ms == 4
    then Four
    else if number (codes "version") ms == 3
    then Three else if number (codes "version") ms == 2 then Two else One

-- ---- elements

-- the delay in the other direction, which is the same where none is given for it
abbrev pub back_at : Members → ℕ
back_at ms = number_or (codes "back") (codes "delay") ms

abbrev pub link_of : Members → LinkSpec
link_of ms = record {
  a = number (codes "a") ms;
  b = number (codes "b") ms;
  delay = number (codes "delay") ms;
  back = back_at ms;
}

abbrev pub role_of : Members → Role
role_of ms =
    if says (codes "role") (codes "sender") ms
    then Sender
    else if says (codes "role") (codes "receiver") ms then Receiver
    else if says (codes "role") (codes "late") ms then Late else Listener

-- the scope of a member's requests: its own, or this one where it has none
abbrev pub scope_of : ℕ → Members → ℕ
scope_of scope ms = if is_some (get_member (codes "scope") ms) then number (codes "scope") ms else scope

-- a member, which has this scope where it has none of its own
abbrev pub member_of : ℕ → Members → MemberSpec
member_of scope ms = record {
  node = number (codes "node") ms;
  role = role_of ms;
  stream = number (codes "stream") ms;
  join = number (codes "join") ms;
  leave = optional_number (codes "leave") ms;
  pages = map (λ d. unwrap_or (whole_number_of d) 0) (array_at (codes "pages") ms);
  scope = scope_of scope ms;
}

abbrev pub draw_of : Members → DrawSpec
draw_of ms = record {
  member = number (codes "member") ms;
  page = number (codes "page") ms;
  ink = number (codes "ink") ms;
  at = number (codes "at") ms;
}

abbrev pub session_message_of : Members → SessionSpec
session_message_of ms = record { member = number (codes "member") ms; at = number (codes "at") ms }

abbrev pub drop_of : Members → DropSpec
drop_of ms = record {
  link = number (codes "link") ms;
  id = record { sender = number (codes "sender") ms; count = number (codes "count") ms };
}

abbrev pub outage_of : Members → OutageSpec
outage_of ms = record {
  link = number (codes "link") ms;
  from = number (codes "from") ms;
  to = number (codes "to") ms;
}

abbrev pub loss_of : Members → LossSpec
loss_of ms = record {
  link = number (codes "link") ms;
  rate = number (codes "rate") ms;
  stream = number (codes "stream") ms;
  from = number (codes "from") ms;
  to = optional_number (codes "to") ms;
  burst = optional_number (codes "burst") ms;
}

-- ---- repetition

-- how far apart the elements are for which one stands
abbrev pub every_of : Data → ℕ
every_of d = unwrap_or (optional_number (codes "every") (table_of d)) 1

-- so many copies of an element, from the k-th on
abbrev pub copies : {A : Type 0} → (ℕ → A) → ℕ → ℕ → List A
copies copy k zero = []
copies copy k (suc n) = copy k ∷ copies copy (k + 1) n

-- the elements for which one stands: its copies from the one of number 0 on, by their numbers and how far apart they
-- are
abbrev pub repeated : {A : Type 0} → (ℕ → ℕ → A → A) → (Members → A) → Data → List A
repeated copy reading d = copies (λ k. copy k (every_of d) (reading (table_of d))) 0 (times_repeated d)

-- the copies of an element by their numbers k, counted from 0, and how far apart they are
abbrev pub member_copy : ℕ → ℕ → MemberSpec → MemberSpec
member_copy k every m = record {
  node = m.node + k * every;
  role = m.role;
  stream = m.stream + k;
  join = m.join;
  leave = m.leave;
  pages = m.pages;
  scope = m.scope;
}

abbrev pub draw_copy : ℕ → ℕ → DrawSpec → DrawSpec
draw_copy k every d = record { member = d.member; page = d.page; ink = d.ink; at = d.at + k * every }

abbrev pub session_copy : ℕ → ℕ → SessionSpec → SessionSpec
session_copy k every r = record { member = r.member; at = r.at + k * every }

abbrev pub drop_copy : ℕ → ℕ → DropSpec → DropSpec
drop_copy k every d = record {
  link = d.link;
  id = record { sender = d.id.sender; count = d.id.count + k * every };
}

abbrev pub outage_copy : ℕ → ℕ → OutageSpec → OutageSpec
outage_copy k every o = record { link = o.link; from = o.from + k * every; to = o.to + k * every }

abbrev pub loss_copy : ℕ → ℕ → LossSpec → LossSpec
loss_copy k every o = record {
  link = o.link + k * every;
  rate = o.rate;
  stream = o.stream;
  from = o.from;
  to = o.to;
  burst = o.burst;
}

-- what the elements at a key stand for, one after the other
abbrev pub repeated_at : {A : Type 0} → List ℕ → (ℕ → ℕ → A → A) → (Members → A) → Members → List A
repeated_at key copy reading ms = flat_map (repeated copy reading) (array_at key ms)

-- what the elements at a key are read as
abbrev pub elements_at : {A : Type 0} → List ℕ → (Members → A) → Members → List A
elements_at key reading ms = map (λ d. reading (table_of d)) (array_at key ms)

-- ---- topologies

-- the topology that a file names
abbrev pub topology_of : Members → Option Topology
topology_of ms =
    if says (codes "topology") (codes "tree") ms
    then Some (Tree (number (codes "degree") ms))
    else if says (codes "topology") (codes "chain") ms then Some Chain
    else if says (codes "topology") (codes "star") ms then Some Star else None

-- the node to which node v, not 0, is joined. Nodes of a chain are numbered along it, the hub of a star is node 0, and
-- a tree is numbered breadth first: the root has `degree` children, and every other inner node one fewer
abbrev pub parent_in : Topology → ℕ → ℕ
parent_in Chain v = v - 1
parent_in Star v = 0
parent_in (Tree degree) v = if nat_le v degree then 0 else 1 + (v - degree - 1) / (degree - 1)

-- n links, each joining a node to its parent, from node v on, with these delays from the parent to the node and back
abbrev pub links_to_parents : Topology → Delays → ℕ → ℕ → List LinkSpec
links_to_parents t delays v zero = []
links_to_parents t delays v (suc n) = record { a = parent_in t v; b = v; delay = delays.delay; back = delays.back }
    ∷ links_to_parents t delays (v + 1) n

-- the delays of each link of a topology
abbrev pub delays_of : Members → Delays
delays_of ms = record { delay = number (codes "delay") ms; back = back_at ms }

-- whether the parents of nodes are given in place of links
abbrev pub names_parents : Members → Bool
names_parents ms = says (codes "topology") (codes "parents") ms

-- the number at a place of a list that may be there, and this one where there is no list
abbrev pub number_at : Option (List Data) → ℕ → ℕ → ℕ
number_at None k other = other
number_at (Some ds) k other = unwrap_or (option_and_then whole_number_of (slice_get ds k)) 0

-- the values of the array at a key, if the table has the key
abbrev pub values_at : List ℕ → Members → Option (List Data)
values_at key ms = if is_some (get_member key ms) then Some (array_at key ms) else None

-- the delay of link k from the parent, and back, which takes as long where nothing is said of it
abbrev pub delay_at : Members → ℕ → ℕ
delay_at ms k = number_at (values_at (codes "delays") ms) k (number (codes "delay") ms)

abbrev pub back_delay_at : Members → ℕ → ℕ
back_delay_at ms k =
    number_at (values_at (codes "backs") ms) k (unwrap_or (optional_number (codes "back") ms) (delay_at ms k))

-- the links of nodes to these parents: link k, and those after it, joins node k + 1 to its parent
abbrev pub links_from : Members → ℕ → List ℕ → List LinkSpec
links_from ms k [] = []
links_from ms k (p ∷ ps) = record { a = p; b = k + 1; delay = delay_at ms k; back = back_delay_at ms k }
    ∷ links_from ms (k + 1) ps

-- the parents of nodes 1, 2, ..
abbrev pub parents_in : Members → List ℕ
parents_in ms = map (λ d. unwrap_or (whole_number_of d) 0) (array_at (codes "parent") ms)

-- the links that a table gives without a size: to the parents of nodes, or as they are listed
abbrev pub given_links : Members → List LinkSpec
given_links ms = if names_parents ms then links_from ms 0 (parents_in ms) else elements_at (codes "link") link_of ms

-- how many nodes there are without a size
abbrev pub given_nodes : Members → ℕ
given_nodes ms =
    if names_parents ms then length (array_at (codes "parent") ms) + 1 else number (codes "nodes") ms

abbrev pub nodes_in : Option Topology → Members → ℕ
nodes_in None ms = given_nodes ms
nodes_in (Some t) ms = number (codes "size") ms

abbrev pub links_in : Option Topology → Members → List LinkSpec
links_in None ms = given_links ms
links_in (Some t) ms = links_to_parents t (delays_of ms) 1 (number (codes "size") ms - 1)

-- what a table says of its network
abbrev pub form_of : Members → Form
form_of ms = record {
  shaped = is_some (get_member (codes "topology") ms);
  sized =
      says (codes "topology") (codes "tree") ms
      || (says (codes "topology") (codes "chain") ms || says (codes "topology") (codes "star") ms);
  tree = says (codes "topology") (codes "tree") ms;
  parents = names_parents ms;
  listed = length (array_at (codes "parent") ms);
  delays = is_some (get_member (codes "delays") ms);
  backs = is_some (get_member (codes "backs") ms);
}

-- ---- the scenario

-- the drops as they are listed
abbrev pub listed_drops : Members → List DropSpec
listed_drops ms = repeated_at (codes "drop") drop_copy drop_of ms

-- the outages, in the order in which they are listed
abbrev pub outages_in : Members → List OutageSpec
outages_in ms = repeated_at (codes "outage") outage_copy outage_of ms

-- the losses, in the order in which they are listed
abbrev pub losses_in : Members → List LossSpec
losses_in ms = repeated_at (codes "loss") loss_copy loss_of ms

abbrev pub constants_of : Members → Constants
constants_of ms = record {
  c1 = number (codes "c1") ms;
  c2 = number (codes "c2") ms;
  d1 = number (codes "d1") ms;
  d2 = number (codes "d2") ms;
}

-- the least values of the constants: the first ones where none are given
abbrev pub least_of : Members → Constants
least_of ms = record {
  c1 = number_or (codes "c1_least") (codes "c1") ms;
  c2 = number_or (codes "c2_least") (codes "c2") ms;
  d1 = number_or (codes "d1_least") (codes "d1") ms;
  d2 = number_or (codes "d2_least") (codes "d2") ms;
}

-- the greatest values of the constants: the first ones where none are given
abbrev pub most_of : Members → Constants
most_of ms = record {
  c1 = number_or (codes "c1_most") (codes "c1") ms;
  c2 = number_or (codes "c2_most") (codes "c2") ms;
  d1 = number_or (codes "d1_most") (codes "d1") ms;
  d2 = number_or (codes "d2_most") (codes "d2") ms;
}

abbrev pub room_of : Members → Room
room_of ms = record {
  least = least_of ms;
  most = most_of ms;
  backoff = unwrap_or (optional_number (codes "backoff") ms) 2;
}

abbrev pub recovery_of : Members → LocalRecovery
recovery_of ms = record {
  widen = number (codes "widen") ms;
  tries = unwrap_or (optional_number (codes "tries") ms) 1;
  steps = unwrap_or (optional_number (codes "steps") ms) 2;
}

unfoldable pub described_scenario : Members → PlainScenario
described_scenario ms = record {
  until = number (codes "until") ms;
  constants = constants_of ms;
  room = room_of ms;
  recovery = recovery_of ms;
  nodes = nodes_in (topology_of ms) ms;
  links = links_in (topology_of ms) ms;
  members = repeated_at (codes "member") member_copy (member_of (number (codes "scope") ms)) ms;
  draws = repeated_at (codes "draw") draw_copy draw_of ms;
  sessions = repeated_at (codes "session") session_copy session_message_of ms;
  drops = drop_rules_of (listed_drops ms) (outages_in ms) (losses_in ms);
}
