use Rattle.std.proofs.Common.{refl}
use Rattle.srm_member.proofs.member_state.page_of.Goals as goal

pub returns : goal.returns
returns c = refl
