use Rattle.srm_model.proofs.LawProofs.{refusals_are_met as the_law}
use Rattle.srm_model.proofs.laws.refusals_are_met.Goals as goal

pub returns : goal.returns
returns c = the_law
