use Rattle.std.proofs.Common.{◌≡◌, ◌<◌, ◌*◌, ◌+◌, ℕ, None, length, slice_index_or}
use Rattle.srm_engine.specs.NextTimes.{word_at, word_of}
use Rattle.srm_engine.proofs.next_times.leaves.Given as goal

-- the leaves so far stand
abbrev pub invariant-loop-member : goal.invariant-loop-member
invariant-loop-member l = record {
  size : length l.words.items ≡ 2 * l.size;
  each : (m : ℕ) → m < l.member → word_at l.words.items (l.size + m) ≡ word_of (slice_index_or l.times m None) m;
}
