use Rattle.std.proofs.Common.{◌≡◌}
use Rattle.srm_crew_tests.proofs.gate_tests.meet_again.Given as goal

abbrev pub invariant-loop : goal.invariant-loop
invariant-loop g l = l.back.ledger ≡ l.context.ledger.now.name
