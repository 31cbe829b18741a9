use Rattle.srm_model.proofs.WindowRows.{own_rows_are_sorted as the_law}
use Rattle.srm_model.proofs.laws_of_windows.own_rows_are_sorted.Goals as goal

pub returns : goal.returns
returns c = the_law
