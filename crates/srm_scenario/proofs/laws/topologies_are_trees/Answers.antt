use Rattle.srm_scenario.proofs.TopologyTrees.{topologies}
use Rattle.srm_scenario.proofs.laws.topologies_are_trees.Goals as goal

pub returns : goal.returns
returns c = topologies
