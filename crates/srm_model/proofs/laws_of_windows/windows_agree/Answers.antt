use Rattle.srm_model.proofs.OneWindow.{windows_agree as the_law}
use Rattle.srm_model.proofs.laws_of_windows.windows_agree.Goals as goal

pub returns : goal.returns
returns c = the_law
