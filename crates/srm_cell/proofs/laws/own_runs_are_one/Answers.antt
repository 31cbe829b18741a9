use Rattle.srm_cell.proofs.OwnRunLemmas.{own_runs_are_one as the_law}
use Rattle.srm_cell.proofs.laws.own_runs_are_one.Goals as goal

pub returns : goal.returns
returns c = the_law
