use Rattle.srm_model.proofs.AllSchedules.{schedules_are_answered as the_law}
use Rattle.srm_model.proofs.laws.schedules_are_answered.Goals as goal

pub returns : goal.returns
returns c = the_law
