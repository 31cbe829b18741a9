use Rattle.srm_net.proofs.LawProofs.{identities_ordered}
use Rattle.srm_net.proofs.laws.packet_identities_are_ordered.Goals as goal

pub returns-clause-order : goal.returns-clause-order
returns-clause-order c = identities_ordered
