use Rattle.srm_model.proofs.WindowChain.{window_traces_are_prefixes as the_law}
use Rattle.srm_model.proofs.laws_of_windows.window_traces_are_prefixes.Goals as goal

pub returns : goal.returns
returns c = the_law
