-- What the topologies are.
use Rattle.std.specs.Prelude.{ℕ, ◌-◌, ◌≤◌, [], Some}
use Rattle.srm_net.specs.Limits.{most_nodes}
use Rattle.srm_net.specs.Network.{IsTree, plain_network}
use Rattle.srm_scenario.specs.declared.delays.Delays.{Delays}
use Rattle.srm_scenario.specs.declared.topology.Topology.{Topology}
use Rattle.srm_scenario.specs.Described.{links_to_parents}
use Rattle.srm_scenario.specs.LookUps.{HasDegree}

-- each topology of a number of nodes that a network may have is a tree, so that none of them is refused as no tree
abbrev pub TopologiesAreTrees : Type 0
TopologiesAreTrees =
    (t : Topology) → HasDegree (Some t) → (delays : Delays) (nodes : ℕ) → 1 ≤ nodes → nodes ≤ most_nodes
    → IsTree (plain_network nodes (links_to_parents t delays 1 (nodes - 1)) [])
