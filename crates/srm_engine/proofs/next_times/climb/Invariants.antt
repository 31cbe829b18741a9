use Rattle.std.proofs.Common.{◌≡◌, ◌≢◌, ◌<◌, ◌≤◌, ◌*◌, ◌+◌, ℕ, length, slice_set}
use Rattle.srm_engine.specs.NextTimes.{word_at, winner_below, AreWinnersBeside, NotAbove}
use Rattle.srm_engine.proofs.next_times.climb.Given as goal

-- the tree is as it should be but for one place, where the least word so far is to stand
abbrev pub invariant-loop-words : goal.invariant-loop-words
invariant-loop-words l = record {
  above : 0 < l.place;
  within : l.place < length l.words;
  others : (first : ℕ) → AreWinnersBeside first l.fn.words → (i : ℕ) → 0 < i → 2 * i + 1 < length l.words → NotAbove i first
      → i ≢ l.place → word_at l.words i ≡ winner_below l.words i;
  here : 2 * l.place + 1 < length l.words → l.least ≡ winner_below l.words l.place;
  leaves : (i : ℕ) → length l.words ≤ 2 * i
      → word_at (slice_set l.words l.place l.least) i ≡ word_at (slice_set l.fn.words l.leaf l.fn.word) i;
}

abbrev pub decreases-loop-words : goal.decreases-loop-words
decreases-loop-words l = l.place
