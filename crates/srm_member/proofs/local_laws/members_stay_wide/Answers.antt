use Rattle.srm_member.proofs.WideProofs.{members_begin_wide, members_stay_wide}
use Rattle.srm_member.proofs.local_laws.members_stay_wide.Goals as goal

pub returns-clause-begin : goal.returns-clause-begin
returns-clause-begin c = members_begin_wide

pub returns-clause-stay : goal.returns-clause-stay
returns-clause-stay c = members_stay_wide
