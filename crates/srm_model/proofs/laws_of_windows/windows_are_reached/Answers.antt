use Rattle.srm_model.proofs.WindowChain.{windows_are_reached as the_law}
use Rattle.srm_model.proofs.laws_of_windows.windows_are_reached.Goals as goal

pub returns : goal.returns
returns c = the_law
