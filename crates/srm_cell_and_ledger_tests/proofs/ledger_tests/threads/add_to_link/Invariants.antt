use Rattle.std.proofs.Common.{◌≡◌}
use Rattle.srm_cell_and_ledger_tests.proofs.ledger_tests.threads.add_to_link.Given as goal

abbrev pub invariant-loop-kind : goal.invariant-loop-kind
invariant-loop-kind l = l.seat.ledger ≡ l.ledger.name
