use Rattle.srm_net.proofs.LawProofs.{reaches_its_sender}
use Rattle.srm_net.proofs.laws.reaches_its_sender.Goals as goal

pub returns : goal.returns
returns c = reaches_its_sender
