use Rattle.srm_model.proofs.LawProofs.{never_spent as the_law}
use Rattle.srm_model.proofs.laws.never_spent.Goals as goal

pub returns : goal.returns
returns c = the_law
