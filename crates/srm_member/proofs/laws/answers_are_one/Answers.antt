use Rattle.srm_member.proofs.LawProofs.{answers_are_one as the_law}
use Rattle.srm_member.proofs.laws.answers_are_one.Goals as goal

pub returns : goal.returns
returns c = the_law
