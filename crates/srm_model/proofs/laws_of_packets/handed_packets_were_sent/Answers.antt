use Rattle.srm_model.proofs.HandedOnce
use Rattle.srm_model.proofs.laws_of_packets.handed_packets_were_sent.Goals as goal

pub returns : goal.returns
returns c = HandedOnce.handed_packets_were_sent
