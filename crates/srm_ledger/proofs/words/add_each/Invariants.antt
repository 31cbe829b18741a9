use Rattle.std.proofs.Common.{◌≡◌, ℕ, ◌+◌, ◌<◌, ◌≤◌, length, slice_index}
use Rattle.srm_ledger.proofs.words.add_each.Given as goal

abbrev pub invariant-loop-i : goal.invariant-loop-i
invariant-loop-i l =
    (length l.xs.items ≡ length l.initial.xs.items)
    × ((k : ℕ) → k < l.i → slice_index l.xs.items k ≡ slice_index l.initial.xs.items k + slice_index l.ys.items k)
    × ((k : ℕ) → l.i ≤ k → slice_index l.xs.items k ≡ slice_index l.initial.xs.items k)
