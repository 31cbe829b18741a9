use Rattle.srm_model.proofs.HandedOnce
use Rattle.srm_model.proofs.laws_of_packets.packets_are_handed_once.Goals as goal

pub returns : goal.returns
returns c = HandedOnce.packets_are_handed_once
