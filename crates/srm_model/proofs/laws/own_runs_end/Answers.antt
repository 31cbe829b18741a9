use Rattle.srm_model.proofs.LawProofs.{own_runs_end as the_law}
use Rattle.srm_model.proofs.laws.own_runs_end.Goals as goal

pub returns : goal.returns
returns c = the_law
