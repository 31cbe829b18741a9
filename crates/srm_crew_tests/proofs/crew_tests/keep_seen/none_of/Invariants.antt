use Rattle.std.proofs.Common.{◌≡◌, length}
use Rattle.srm_crew_tests.proofs.crew_tests.keep_seen.none_of.Given as goal

abbrev pub invariant-loop : goal.invariant-loop
invariant-loop l = length l.own.items ≡ l.counter
