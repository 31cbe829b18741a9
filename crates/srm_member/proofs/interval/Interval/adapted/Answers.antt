use Rattle.std.proofs.Common.{arith}
use Rattle.std.proofs.lemmas.Grind.{common_steps}
use Rattle.srm_member.proofs.interval.Interval.adapted.Goals as goal

pub returns : goal.returns
returns c = grind (arith, common_steps)

pub returns-then-self : goal.returns-then-self
returns-then-self c = grind (arith, common_steps)
