use Rattle.srm_model.proofs.WindowChain.{windows_follow as the_law}
use Rattle.srm_model.proofs.laws_of_windows.windows_follow.Goals as goal

pub returns : goal.returns
returns c = the_law
