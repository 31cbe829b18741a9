use Rattle.std.proofs.Common.{◌≡◌, ◌++◌, ◌-◌}
use Rattle.srm_scenario.specs.Described.{links_to_parents}
use Rattle.srm_scenario.proofs.topology.Topology.links.Given as goal

abbrev pub invariant-loop-v : goal.invariant-loop-v
invariant-loop-v l = l.links.items ++ links_to_parents l.self l.delays l.v (l.size - l.v) ≡ links_to_parents l.self l.delays 1 (l.size - 1)
