use Rattle.srm_cell_and_ledger_tests.proofs.ledger_tests.worked.+split_and_join.Given as goal

abbrev pub decreases-split_and_join : goal.decreases-split_and_join
decreases-split_and_join g l = l.times
