use Rattle.std.proofs.Common.{◌≡◌, ◌<◌, ◌≤◌, ◌-◌, ◌^◌, length, vec_len}
use Rattle.std.specs.Io.KnownBytes.{Consumes}
use Rattle.srm_scenario.proofs.bytes.read_text.Given as goal

-- the text so far is what the feed gave, and no call failed
abbrev pub invariant-loop-piece : goal.invariant-loop-piece
invariant-loop-piece g l = record {
  short : length l.text.items ≤ 1048577;
  unfailed : g.F.Feed.failures l.feed ≡ g.F.Feed.failures l.initial.feed;
  below : g.F.Feed.failures l.initial.feed < 2 ^ 64 - 1;
  given : Consumes (g.F.Feed.remaining l.initial.feed) (g.F.Feed.remaining l.feed) l.text.items;
}

abbrev pub decreases-loop-piece : goal.decreases-loop-piece
decreases-loop-piece g l = 1048578 - vec_len l.text
