use Rattle.srm_model.proofs.WindowChain.{calls_follow as the_law}
use Rattle.srm_model.proofs.laws_of_windows.calls_follow.Goals as goal

pub returns : goal.returns
returns c = the_law
