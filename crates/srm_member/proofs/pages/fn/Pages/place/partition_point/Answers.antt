use Rattle.std.proofs.Common.{arith}
use Rattle.std.proofs.lemmas.Grind.{common_steps}
use Rattle.srm_member.proofs.pages.fn.Pages.place.partition_point.Goals as goal

pub returns : goal.returns
returns c = grind (arith, common_steps)
