use Rattle.std.proofs.Common.{refl}
use Rattle.srm_net.specs.Losses.{mix}
use Rattle.srm_net.proofs.word.mix.Goals as goal

pub returns : goal.returns
unfolding mix
returns c = refl
