use Rattle.srm_model.proofs.LawProofs.{cells_run_alone as the_law}
use Rattle.srm_model.proofs.laws.cells_run_alone.Goals as goal

pub returns : goal.returns
returns c = the_law
