use Rattle.srm_model.proofs.Merge.{merges_agree as the_law}
use Rattle.srm_model.proofs.laws.merges_agree.Goals as goal

pub returns : goal.returns
returns c = the_law
