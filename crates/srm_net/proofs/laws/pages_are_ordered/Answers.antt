use Rattle.srm_net.proofs.LawProofs.{pages_ordered}
use Rattle.srm_net.proofs.laws.pages_are_ordered.Goals as goal

pub returns-clause-order : goal.returns-clause-order
returns-clause-order c = pages_ordered
