use Rattle.std.proofs.Common.{◌+◌, ◌*◌}
use Rattle.srm_cell_and_ledger_tests.proofs.ledger_tests.threads.+add_in_threads+fn-add_in_threads-join+arg2+fn-add_in_threads-join+arg3.Given as goal

abbrev pub decreases-add_in_threads : goal.decreases-add_in_threads
decreases-add_in_threads g l = 2 * l.threads

abbrev pub decreases-join+arg2 : goal.decreases-join+arg2
decreases-join+arg2 g l = 2 * l.more + 1

abbrev pub decreases-join+arg3 : goal.decreases-join+arg3
decreases-join+arg3 g l = 2 * l.less + 1
