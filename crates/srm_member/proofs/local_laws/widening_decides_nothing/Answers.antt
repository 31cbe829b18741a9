use Rattle.srm_member.proofs.Widening.{widening_decides_nothing as the_law}
use Rattle.srm_member.proofs.local_laws.widening_decides_nothing.Goals as goal

pub returns : goal.returns
returns c = the_law
