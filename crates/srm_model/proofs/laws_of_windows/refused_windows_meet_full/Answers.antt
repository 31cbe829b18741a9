use Rattle.srm_model.proofs.WindowChain.{refused_windows_meet_full as the_law}
use Rattle.srm_model.proofs.laws_of_windows.refused_windows_meet_full.Goals as goal

pub returns : goal.returns
returns c = the_law
