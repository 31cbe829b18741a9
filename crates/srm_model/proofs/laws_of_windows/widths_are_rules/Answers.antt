use Rattle.srm_model.proofs.WindowEnds.{widths_are_rules as the_law}
use Rattle.srm_model.proofs.laws_of_windows.widths_are_rules.Goals as goal

pub returns : goal.returns
returns c = the_law
