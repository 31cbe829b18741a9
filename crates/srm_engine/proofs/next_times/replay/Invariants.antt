use Rattle.std.proofs.Common.{◌≡◌, ◌<◌, ◌*◌, ◌+◌, ◌/◌, ◌^◌, ℕ, length}
use Rattle.srm_engine.specs.NextTimes.{word_at, winner_below, NotAbove, SetsLeaf}
use Rattle.srm_engine.proofs.next_times.replay.Given as goal

-- the least word so far stands above the leaf, and all words but those above that place are winners
abbrev pub invariant-loop-least : goal.invariant-loop-least
invariant-loop-least l = record {
  up : (d : ℕ) × (l.place ≡ l.leaf / 2 ^ d);
  above : 0 < l.place;
  within : l.place < length l.words;
  stands : word_at l.words l.place ≡ l.least;
  tree : (i : ℕ) → 0 < i → 2 * i + 1 < length l.words → NotAbove i (l.place / 2) → word_at l.words i ≡ winner_below l.words i;
  leaves : SetsLeaf l.leaf l.fn.word l.fn.words l.words;
}

abbrev pub decreases-loop-least : goal.decreases-loop-least
decreases-loop-least l = l.place
