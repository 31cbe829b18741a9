use Rattle.std.proofs.Common.{◌≡◌}
use Rattle.srm_cell_and_ledger_tests.proofs.ledger_tests.threads.add_everywhere.Given as goal

abbrev pub invariant-loop : goal.invariant-loop
invariant-loop l = l.seat.ledger ≡ l.ledger.name
