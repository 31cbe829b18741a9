use Rattle.srm_model.proofs.NamesKept
use Rattle.srm_model.proofs.laws_of_names.exits_are_what_rows_say.Goals as goal

pub returns : goal.returns
returns c = NamesKept.exits_are_what_rows_say
