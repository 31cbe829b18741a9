use Rattle.srm_net.proofs.Joining.{ways_take_the_same_links, everywhere_crosses_the_same, everywhere_is_nowhere_dropped}
use Rattle.srm_net.proofs.laws.packets_cross_the_same_links.Goals as goal

pub returns-clause-ways : goal.returns-clause-ways
returns-clause-ways c = ways_take_the_same_links

pub returns-clause-crosses : goal.returns-clause-crosses
returns-clause-crosses c = everywhere_crosses_the_same

pub returns-clause-dropped : goal.returns-clause-dropped
returns-clause-dropped c = everywhere_is_nowhere_dropped
