-- What the top table of a scenario file holds, where it fits its rules.
use Rattle.std.specs.Prelude.{◌≡◌, ◌≤◌, true, false, List, Option, Some, None, codes, length, sum_by}
use Rattle.toml.specs.Data.{Data, Members}
use Rattle.srm_net.specs.Network.{IsLinkDelay}
use Rattle.srm_scenario.specs.declared.delays.Delays.{Delays}
use Rattle.srm_scenario.specs.declared.version.Version.{Version}
use Rattle.srm_scenario.specs.declared.topology.Topology.{Topology}
use Rattle.srm_scenario.specs.declared.topology.Topology.TheVariants.{Tree}
use Rattle.srm_scenario.specs.declared.top.Numbers.{Numbers}
use Rattle.srm_scenario.specs.declared.top.Shape.{Shape}
use Rattle.srm_scenario.specs.Accepted.{AreConstants, IsRecovery}
use Rattle.srm_scenario.specs.Described.{number, version_of, topology_of, delays_of, constants_of, nodes_in}
use Rattle.srm_scenario.specs.Described.{recovery_of, room_of}
use Rattle.srm_net.specs.Limits.{end_of_time, most_links, most_listed, most_nodes}
use Rattle.srm_scenario.specs.Rules.{allows_repetition, times_repeated}

-- the degree of a tree is 2 to 65,534
abbrev pub HasDegree : Option Topology → Type 0
HasDegree (Some (Tree degree)) = (2 ≤ degree) × (degree ≤ most_links)
HasDegree t = Unit {0}

-- the table's version, end of the run, constants and their room, scope and local recovery
pub record HasNumbers (ms : Members) (n : Numbers) : Type 0 where
  pub version_is : version_of ms ≡ n.version
  pub until_is : number (codes "until") ms ≡ n.until
  pub some_ticks : 1 ≤ n.until
  pub few_ticks : n.until ≤ end_of_time
  pub constants_are : constants_of ms ≡ n.constants
  pub room_is : room_of ms ≡ n.room
  pub constants_fit : AreConstants n.constants n.room
  pub scope_is : number (codes "scope") ms ≡ n.scope
  pub recovery_is : recovery_of ms ≡ n.recovery
  pub recovery_fits : IsRecovery n.recovery

-- the delays of a topology's links are 1 to 1,000,000
abbrev pub AreDelays : Option Topology → Delays → Type 0
AreDelays None delays = Unit {0}
AreDelays (Some t) delays = IsLinkDelay delays.delay × IsLinkDelay delays.back

-- the table's topology, nodes, and delays of each link
pub record HasShape (ms : Members) (s : Shape) : Type 0 where
  pub topology_is : topology_of ms ≡ s.topology
  pub topology_fits : HasDegree s.topology
  pub nodes_are : nodes_in (topology_of ms) ms ≡ s.nodes
  pub some_nodes : 1 ≤ s.nodes
  pub few_nodes : s.nodes ≤ most_nodes
  pub delays_are : delays_of ms ≡ s.delays
  pub delays_fit : AreDelays s.topology s.delays

-- these elements stand for at most as many as may be listed, or are as few where each stands for itself alone
pub record FewElements (version : Version) (ds : List Data) : Type 0 where
  pub stand_for : allows_repetition version ≡ true → sum_by times_repeated ds ≤ most_listed
  pub are : allows_repetition version ≡ false → length ds ≤ most_listed
