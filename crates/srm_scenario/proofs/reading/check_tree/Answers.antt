use Rattle.std.proofs.Common.{refl, inr, []}
use Rattle.std.proofs.lemmas.Bool.{both_ways}
use Rattle.srm_net.specs.Network.{plain_network}
use Rattle.srm_scenario.proofs.TreeLemmas.{test_from_tree, not_tree}
use Rattle.srm_scenario.proofs.reading.check_tree.Goals as goal

pub returns-then-is_tree : goal.returns-then-is_tree
returns-then-is_tree c =
    test_from_tree (plain_network c.args.nodes c.args.links.now []) (c.in_ok-is_tree.ensures.0 c.if-is_tree.true)

pub returns-else-is_tree : goal.returns-else-is_tree
returns-else-is_tree c = inr (
  refl,
  not_tree (plain_network c.args.nodes c.args.links.now []) (λ t. both_ways _ c.if-is_tree.false (c.in_ok-is_tree.ensures.1 t)),
)
