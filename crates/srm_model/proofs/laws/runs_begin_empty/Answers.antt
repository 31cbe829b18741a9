use Rattle.std.proofs.Common.{refl}
use Rattle.srm_model.specs.World.{run, opening}
use Rattle.srm_model.proofs.laws.runs_begin_empty.Goals as goal

pub returns : goal.returns
unfolding run opening
returns c s = ((0, refl), refl)
