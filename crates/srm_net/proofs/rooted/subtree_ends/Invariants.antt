use Rattle.std.proofs.Common.{◌≡◌, length}
use Rattle.srm_net.proofs.Subtrees.{EndsFrom}
use Rattle.srm_net.proofs.rooted.subtree_ends.Given as goal

abbrev pub invariant-loop-index : goal.invariant-loop-index
invariant-loop-index l = record { long : length l.ends.items ≡ l.nodes; told : EndsFrom l.steps l.index l.ends.items }
