use Rattle.std.specs.List.{AllByRecursion}
use Rattle.srm_explain.specs.Flaws.{IsUnreached}
use Rattle.srm_explain.proofs.flaws.unreached_in.Given as goal

-- the nodes so far are not reached
abbrev pub invariant-loop-node : goal.invariant-loop-node
invariant-loop-node l = AllByRecursion (IsUnreached l.nodes l.links) l.unreached.items
