use Rattle.std.proofs.Common.{arith}
use Rattle.std.proofs.lemmas.Bool.Decides.{nat_tests}
use Rattle.srm_scenario.proofs.table.times_in.Goals as goal

pub returns-in-Some-clause-times : goal.returns-in-Some-clause-times
returns-in-Some-clause-times c = grind (arith, nat_tests)

pub returns-in_default-clause-times : goal.returns-in_default-clause-times
returns-in_default-clause-times c = grind (arith, nat_tests)

pub returns-in_default-2-clause-times : goal.returns-in_default-2-clause-times
returns-in_default-2-clause-times c = grind (arith, nat_tests)
