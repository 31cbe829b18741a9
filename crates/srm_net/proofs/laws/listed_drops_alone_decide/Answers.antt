use Rattle.srm_net.proofs.FateLemmas.{listed_alone_reaches, listed_alone_at_any_time}
use Rattle.srm_net.proofs.laws.listed_drops_alone_decide.Goals as goal

pub returns-clause-reaches : goal.returns-clause-reaches
returns-clause-reaches c = listed_alone_reaches

pub returns-clause-at_any_time : goal.returns-clause-at_any_time
returns-clause-at_any_time c = listed_alone_at_any_time
