use Rattle.srm_model.proofs.WindowJobs.{jobs_run_all as the_law}
use Rattle.srm_model.proofs.laws_of_windows.jobs_run_all.Goals as goal

pub returns : goal.returns
returns c = the_law
