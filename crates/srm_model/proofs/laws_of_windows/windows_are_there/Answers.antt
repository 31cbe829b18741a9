use Rattle.srm_model.proofs.OneWindow.{windows_are_there as the_law}
use Rattle.srm_model.proofs.laws_of_windows.windows_are_there.Goals as goal

pub returns : goal.returns
returns c = the_law
