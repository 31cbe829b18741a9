use Rattle.srm_member.proofs.AdaptingProofs.{listeners_intervals_stay as the_law}
use Rattle.srm_member.proofs.adapting_laws.listeners_intervals_stay.Goals as goal

pub returns : goal.returns
returns c = the_law
