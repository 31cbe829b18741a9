use Rattle.srm_member.proofs.LawProofs.{same_fixed as the_law}
use Rattle.srm_member.proofs.laws.fixed_part_stays.Goals as goal

pub returns : goal.returns
returns c = the_law
