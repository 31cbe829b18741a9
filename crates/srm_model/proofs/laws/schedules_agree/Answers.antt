use Rattle.srm_model.proofs.LawProofs.{schedules_agree as the_law}
use Rattle.srm_model.proofs.laws.schedules_agree.Goals as goal

pub returns : goal.returns
returns c = the_law
