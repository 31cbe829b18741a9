use Rattle.std.proofs.Common.{arith, ◌≤◌, length}
use Rattle.srm_net.specs.Limits.{most_nodes}
use Rattle.srm_net.specs.Built.{network_inside}
use Rattle.srm_net.proofs.PathLaws.{few_members}
use Rattle.srm_net.proofs.tree.Tree.members.Goals as goal

pub overflow_cast-result : goal.overflow_cast-result
overflow_cast-result c =
    let few : length c.self.inside.hosts.items ≤ most_nodes = few_members (network_inside c.self.inside) c.self.invariant.network in
    omega (arith, c.self.inside.hosts.ok.0, c.len.ensures)
