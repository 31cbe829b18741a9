use Rattle.std.proofs.Common.{◌≤◌}
use Rattle.srm_net_and_scenario_tests.proofs.feed_tests.pieces.Given as goal

-- the feed failed at most once in each call
abbrev pub invariant-loop-call : goal.invariant-loop-call
invariant-loop-call l = l.feed.failures ≤ l.call
