use Rattle.srm_member.proofs.AdaptingProofs.{constants_begin_within_limits, constants_stay}
use Rattle.srm_member.proofs.adapting_laws.constants_of_members_stay_within_limits.Goals as goal

pub returns-clause-begin : goal.returns-clause-begin
returns-clause-begin c = constants_begin_within_limits

pub returns-clause-stay : goal.returns-clause-stay
returns-clause-stay c = constants_stay
