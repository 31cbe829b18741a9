use Rattle.srm_model.proofs.LawProofs.{run_ends as the_law}
use Rattle.srm_model.proofs.laws.run_ends.Goals as goal

pub returns : goal.returns
returns c = the_law
