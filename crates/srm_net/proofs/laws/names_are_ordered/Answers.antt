use Rattle.srm_net.proofs.LawProofs.{names_ordered}
use Rattle.srm_net.proofs.laws.names_are_ordered.Goals as goal

pub returns-clause-order : goal.returns-clause-order
returns-clause-order c = names_ordered
