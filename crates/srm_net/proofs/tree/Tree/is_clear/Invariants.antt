use Rattle.std.proofs.Common.{◌≡◌, ◌+◌, ◌<◌, ◌≤◌, length}
use Rattle.std.specs.List.{list_any}
use Rattle.srm_net.specs.Paths.{route, delay_along, stops, takes_out}
use Rattle.srm_net.proofs.tree.Tree.is_clear.Given as goal
use Rattle.srm_net.specs.Limits.{end_of_time, greatest_distance}

abbrev pub invariant-loop-at : goal.invariant-loop-at
invariant-loop-at l = record {
  node : l.at < l.self.nodes;
  rest : list_any (takes_out l.drops l.id) (stops l.self.links l.at l.tick (route l.self l.at l.to))
      ≡ list_any (takes_out l.drops l.id) (stops l.self.links l.from l.sent (route l.self l.from l.to));
  in_time : l.tick + delay_along l.self.links l.at (route l.self l.at l.to) ≤ end_of_time + greatest_distance;
}

abbrev pub decreases-loop-at : goal.decreases-loop-at
decreases-loop-at l = length (route l.self l.at l.to)
