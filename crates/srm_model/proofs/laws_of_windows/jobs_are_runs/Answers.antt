use Rattle.srm_model.proofs.WindowJobs.{jobs_are_runs as the_law}
use Rattle.srm_model.proofs.laws_of_windows.jobs_are_runs.Goals as goal

pub returns : goal.returns
returns c = the_law
