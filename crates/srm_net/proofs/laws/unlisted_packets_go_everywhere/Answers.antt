use Rattle.srm_net.proofs.FateLemmas.{unlisted_reaches_all, unlisted_crosses_its_ways, unlisted_is_nowhere_dropped}
use Rattle.srm_net.proofs.laws.unlisted_packets_go_everywhere.Goals as goal

pub returns-clause-reaches : goal.returns-clause-reaches
returns-clause-reaches c = unlisted_reaches_all

pub returns-clause-crosses : goal.returns-clause-crosses
returns-clause-crosses c = unlisted_crosses_its_ways

pub returns-clause-dropped : goal.returns-clause-dropped
returns-clause-dropped c = unlisted_is_nowhere_dropped
