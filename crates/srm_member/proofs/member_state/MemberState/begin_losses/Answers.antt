use Rattle.std.proofs.Common.{arith}
use Rattle.std.proofs.lemmas.Grind.{common_steps}
use Rattle.srm_member.proofs.member_state.MemberState.begin_losses.Goals as goal

pub returns-then-next-n : goal.returns-then-next-n
returns-then-next-n c = grind (arith, common_steps)
