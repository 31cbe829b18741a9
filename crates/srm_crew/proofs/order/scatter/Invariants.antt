use Rattle.std.proofs.Common.{◌≡◌, ◌++◌, List, length, vec_len}
use Rattle.srm_crew.proofs.Ordering.{FilledFrom}
use Rattle.srm_crew.proofs.order.scatter.Given as goal

abbrev pub invariant-loop-last : goal.invariant-loop-last
invariant-loop-last g l = record {
  rest : (tail : List _) × (l.fn.results.items ≡ l.results.items ++ tail);
  long : length l.slots.items ≡ length l.fn.results.items;
  filled : FilledFrom l.indices l.fn.results.items (length l.results.items) l.slots.items;
}

abbrev pub decreases-loop-last : goal.decreases-loop-last
decreases-loop-last g l = vec_len l.results
