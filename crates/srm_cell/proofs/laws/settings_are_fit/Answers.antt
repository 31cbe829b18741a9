use Rattle.srm_cell.proofs.FitSettings.{settings_are_fit as the_law}
use Rattle.srm_cell.proofs.laws.settings_are_fit.Goals as goal

pub returns : goal.returns
returns c = the_law
