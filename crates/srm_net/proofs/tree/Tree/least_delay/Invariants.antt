use Rattle.std.proofs.Common.{◌≡◌}
use Rattle.srm_net.proofs.LeastLemmas.{least_of_first}
use Rattle.srm_net.proofs.tree.Tree.least_delay.Given as goal

abbrev pub invariant-loop-link : goal.invariant-loop-link
invariant-loop-link l = l.least ≡ least_of_first l.self.links l.link-index
