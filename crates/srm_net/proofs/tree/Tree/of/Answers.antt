use Rattle.std.proofs.Common.{◌≡◌, rules}
use Rattle.srm_net.proofs.OrderLemmas.{built_tree}
use Rattle.srm_net.proofs.tree.Tree.of.Goals as goal

pub invariant_of-result : goal.invariant_of-result
invariant_of-result c =
    let links : c.in_ok-to_vec.field-0.items ≡ c.args.links.now = search rules in
    let hosts : c.in_ok-to_vec-2.field-0.items ≡ c.args.hosts.now = search rules in
    built_tree (record {
      nodes = c.args.nodes;
      links = c.in_ok-to_vec.field-0;
      hosts = c.in_ok-to_vec-2.field-0;
      rooted = c.in_ok-of.field-0;
    }) c.args.links.now c.args.hosts.now links hosts c.requires.tree c.requires.delays c.requires.placed c.in_ok-of.ensures
