use Rattle.std.proofs.Common.{arith}
use Rattle.std.proofs.lemmas.Bool.Decides.{nat_tests}
use Rattle.srm_scenario.proofs.parts.MemberSpec.is_present.Goals as goal

pub returns-then-stays : goal.returns-then-stays
returns-then-stays c = grind (arith, nat_tests)

pub returns-else-stays : goal.returns-else-stays
returns-else-stays c = grind (arith, nat_tests)
