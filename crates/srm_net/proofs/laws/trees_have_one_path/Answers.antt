use Rattle.srm_net.proofs.OnePaths.{trees_have_one_path}
use Rattle.srm_net.proofs.laws.trees_have_one_path.Goals as goal

pub returns : goal.returns
returns c = trees_have_one_path
