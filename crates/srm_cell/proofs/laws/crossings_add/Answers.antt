use Rattle.srm_cell.proofs.CrossingLemmas.{crossings_add as the_law}
use Rattle.srm_cell.proofs.laws.crossings_add.Goals as goal

pub returns : goal.returns
returns c = the_law
