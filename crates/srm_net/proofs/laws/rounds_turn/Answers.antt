use Rattle.srm_net.proofs.LawProofs.{rounds_turn}
use Rattle.srm_net.proofs.laws.rounds_turn.Goals as goal

pub returns : goal.returns
returns c = rounds_turn
