use Rattle.srm_model.proofs.WindowPackets.{window_packets_are_new as the_law}
use Rattle.srm_model.proofs.laws_of_windows.window_packets_are_new.Goals as goal

pub returns : goal.returns
returns c = the_law
