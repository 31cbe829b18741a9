use Rattle.srm_net.proofs.LawProofs.{same_drops_listed, one_list_of_drops}
use Rattle.srm_net.proofs.OutageLemmas.{same_outages_out}
use Rattle.srm_net.proofs.laws.drops_are_a_set.Goals as goal

pub returns-clause-listed : goal.returns-clause-listed
returns-clause-listed c = same_drops_listed

pub returns-clause-one_list : goal.returns-clause-one_list
returns-clause-one_list c = one_list_of_drops

pub returns-clause-out : goal.returns-clause-out
returns-clause-out c = same_outages_out
