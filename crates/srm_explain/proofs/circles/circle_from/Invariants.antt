use Rattle.std.proofs.Common.{◌≡◌}
use Rattle.srm_explain.specs.Flaws.{first_or, Climbs}
use Rattle.srm_explain.proofs.circles.circle_from.Given as goal

-- from the start on each node is the child of the next one, and the last one is the child of this one
abbrev pub invariant-loop-node : goal.invariant-loop-node
invariant-loop-node l = record {
  climbs : Climbs l.links l.circle.items l.node;
  first : first_or l.node l.circle.items ≡ l.start;
}
