use Rattle.srm_model.proofs.WindowJobs.{crossings_keep as the_law}
use Rattle.srm_model.proofs.laws_of_windows.crossings_keep.Goals as goal

pub returns : goal.returns
returns c = the_law
