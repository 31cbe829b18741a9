use Rattle.srm_report.proofs.ScopeLemmas.{id_find}
use Rattle.srm_report.proofs.scopes.heard_counts.HeardCounts.of.Goals as goal

pub returns : goal.returns
returns c = simp id_find (cc)
