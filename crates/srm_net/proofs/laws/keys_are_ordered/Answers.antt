use Rattle.srm_net.proofs.LawProofs.{keys_ordered}
use Rattle.srm_net.proofs.TotalOrders.{keys_compared}
use Rattle.srm_net.proofs.laws.keys_are_ordered.Goals as goal

pub returns-clause-order : goal.returns-clause-order
returns-clause-order c = keys_ordered

pub returns-clause-derived : goal.returns-clause-derived
returns-clause-derived c = keys_compared
