use Rattle.srm_member.proofs.IntervalProofs.{without_room_constants_stay as the_law}
use Rattle.srm_member.proofs.interval_laws.without_room_constants_stay.Goals as goal

pub returns : goal.returns
returns c = the_law
