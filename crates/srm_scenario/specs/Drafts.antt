-- What is read from a table before its parts are held against one another.
use Rattle.std.specs.Prelude.{◌≡◌, ℕ, ◌-◌, ◌≤◌, List, [], Option, Some, None, codes, map, length}
use Rattle.toml.specs.Data.{Members}
use Rattle.srm_net.specs.declared.link.LinkSpec.{LinkSpec}
use Rattle.srm_scenario.specs.declared.fault.ScenarioFault.{ScenarioFault}
use Rattle.srm_scenario.specs.declared.draft.Draft.{Draft}
use Rattle.srm_scenario.specs.declared.delays.Delays.{Delays}
use Rattle.srm_scenario.specs.declared.topology.Topology.{Topology}
use Rattle.srm_scenario.specs.Accepted.{AreConstants, IsRecovery}
use Rattle.srm_scenario.specs.Plain.{PlainScenario, drop_rules_of}
use Rattle.srm_scenario.specs.Described.{number, constants_of, room_of, topology_of, delays_of, nodes_in, repeated_at}
use Rattle.srm_scenario.specs.Described.{draw_of, draw_copy, session_message_of, session_copy, listed_drops, outages_in}
use Rattle.srm_scenario.specs.Described.{losses_in, recovery_of}
use Rattle.srm_scenario.specs.Described.{given_links, links_to_parents}
use Rattle.srm_scenario.specs.Faults.{key_faults, meaning_faults, is_star, entries_in}
use Rattle.srm_scenario.specs.LookUps.{HasDegree, AreDelays}
use Rattle.srm_net.specs.Limits.{end_of_time, most_listed}

-- this is what the table lists, no key of which is a fault
pub record IsDraft (ms : Members) (l : Draft) : Type 0 where
  pub no_fault : key_faults ms ≡ []
  pub until : number (codes "until") ms ≡ l.until
  pub some_ticks : 1 ≤ l.until
  pub few_ticks : l.until ≤ end_of_time
  pub constants : constants_of ms ≡ l.constants
  pub room : room_of ms ≡ l.room
  pub constants_fit : AreConstants l.constants l.room
  pub recovery : recovery_of ms ≡ l.recovery
  pub recovery_fits : IsRecovery l.recovery
  pub topology : topology_of ms ≡ l.topology
  pub degree : HasDegree l.topology
  pub nodes : nodes_in (topology_of ms) ms ≡ l.nodes
  pub some_nodes : 1 ≤ l.nodes
  pub delays : delays_of ms ≡ l.delays
  pub delays_fit : AreDelays l.topology l.delays
  pub links : given_links ms ≡ l.links.items
  pub members : entries_in ms ≡ l.members.items
  pub draws : repeated_at (codes "draw") draw_copy draw_of ms ≡ l.draws.items
  pub sessions : repeated_at (codes "session") session_copy session_message_of ms ≡ l.sessions.items
  pub drops : listed_drops ms ≡ l.drops.items
  pub outages : outages_in ms ≡ l.outages.items
  pub losses : losses_in ms ≡ l.losses.items
  pub few_draws : length l.draws.items ≤ most_listed
  pub few_sessions : length l.sessions.items ≤ most_listed

-- ---- the scenario of what is listed

-- the links of a topology with so many nodes, or else those given
abbrev pub links_listed : Option Topology → ℕ → Delays → List LinkSpec → List LinkSpec
links_listed None nodes delays links = links
links_listed (Some t) nodes delays links = links_to_parents t delays 1 (nodes - 1)

-- the scenario of what is listed
unfoldable pub plain_of : Draft → PlainScenario
plain_of l = record {
  until = l.until;
  constants = l.constants;
  room = l.room;
  recovery = l.recovery;
  nodes = l.nodes;
  links = links_listed l.topology l.nodes l.delays l.links.items;
  members = map (λ e. e.spec) l.members.items;
  draws = l.draws.items;
  sessions = l.sessions.items;
  drops = drop_rules_of l.drops.items l.outages.items l.losses.items;
}

-- the faults of what is listed
abbrev pub faults_in : Draft → List ScenarioFault
faults_in l = meaning_faults (plain_of l) (is_star l.topology) l.members.items l.drops.items
