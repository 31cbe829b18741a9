use Rattle.srm_model.proofs.WindowJobs.{crossings_are_totals as the_law}
use Rattle.srm_model.proofs.laws_of_windows.crossings_are_totals.Goals as goal

pub returns : goal.returns
returns c = the_law
