use Rattle.srm_model.proofs.WindowRows.{packets_are_heard_in_turn as the_law}
use Rattle.srm_model.proofs.laws_of_windows.packets_are_heard_in_turn.Goals as goal

pub returns : goal.returns
returns c = the_law
