use Rattle.std.proofs.Common.{◌≡◌, ◌<◌, ◌≤◌, ◌*◌, ◌+◌, ℕ, length}
use Rattle.srm_engine.specs.NextTimes.{word_at, winner_below, KeepsLeaves}
use Rattle.srm_engine.proofs.next_times.raise_winners.Given as goal

-- the leaves are as they were, and the words from this one on are winners
abbrev pub invariant-loop-place : goal.invariant-loop-place
invariant-loop-place l = record {
  leaves : KeepsLeaves l.fn.words l.words;
  nodes : (i : ℕ) → l.place ≤ i → 0 < i → 2 * i + 1 < length l.words → word_at l.words i ≡ winner_below l.words i;
}
