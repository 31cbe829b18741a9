use Rattle.std.proofs.Common.{◌≡◌}
use Rattle.srm_cell_and_ledger_tests.proofs.ledger_tests.threads.add_to_all.Given as goal

abbrev pub invariant-loop-link : goal.invariant-loop-link
invariant-loop-link l = l.seat.ledger ≡ l.ledger.name
