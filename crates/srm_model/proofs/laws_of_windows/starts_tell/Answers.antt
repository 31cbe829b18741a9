use Rattle.srm_model.proofs.WindowEnds.{starts_tell as the_law}
use Rattle.srm_model.proofs.laws_of_windows.starts_tell.Goals as goal

pub returns : goal.returns
returns c = the_law
