use Rattle.srm_model.proofs.LawProofs.{windows_are_safe as the_law}
use Rattle.srm_model.proofs.laws.windows_are_safe.Goals as goal

pub returns : goal.returns
returns c = the_law
