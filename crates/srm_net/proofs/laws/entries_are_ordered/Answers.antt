use Rattle.srm_net.proofs.LawProofs.{entries_ordered}
use Rattle.srm_net.proofs.laws.entries_are_ordered.Goals as goal

pub returns-clause-order : goal.returns-clause-order
returns-clause-order c = entries_ordered
