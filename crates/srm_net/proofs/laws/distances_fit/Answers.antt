use Rattle.srm_net.proofs.LawProofs.{distances_fit}
use Rattle.srm_net.proofs.laws.distances_fit.Goals as goal

pub returns : goal.returns
returns c = distances_fit
