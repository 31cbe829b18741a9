use Rattle.srm_member.proofs.IntervalProofs.{constants_stay_within_limits as the_law}
use Rattle.srm_member.proofs.interval_laws.constants_stay_within_limits.Goals as goal

pub returns : goal.returns
returns c = the_law
