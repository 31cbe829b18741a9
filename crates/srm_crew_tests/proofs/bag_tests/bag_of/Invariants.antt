use Rattle.std.proofs.Common.{◌≡◌}
use Rattle.srm_crew_tests.proofs.bag_tests.bag_of.Given as goal

abbrev pub invariant-loop-number : goal.invariant-loop-number
invariant-loop-number g l = l.pass.bag ≡ l.bag.name
