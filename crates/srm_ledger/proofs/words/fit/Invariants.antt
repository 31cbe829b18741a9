use Rattle.std.proofs.Common.{ℕ, ◌+◌, ◌^◌, ◌<◌, ◌≤◌, slice_index}
use Rattle.srm_ledger.proofs.words.fit.Given as goal

abbrev pub invariant-loop-i : goal.invariant-loop-i
invariant-loop-i l = (k : ℕ) → k < l.i → slice_index l.xs.items k + slice_index l.ys.items k ≤ 2 ^ 47
