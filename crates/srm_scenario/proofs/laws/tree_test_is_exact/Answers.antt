use Rattle.srm_net.proofs.OnePaths.{trees_have_one_path}
use Rattle.srm_scenario.proofs.TreeLemmas.{tree_from_test, test_from_tree}
use Rattle.srm_scenario.proofs.laws.tree_test_is_exact.Goals as goal

pub returns : goal.returns
returns c w =
    let one = trees_have_one_path w in
    (λ h. one.0 (tree_from_test w h), λ h. test_from_tree w (one.1 h))
