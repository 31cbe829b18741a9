use Rattle.std.proofs.Common.{sym, subst, IfOk}
use Rattle.srm_net.specs.Built.{network_inside}
use Rattle.srm_net.specs.Network.{Network}
use Rattle.srm_net.specs.Tables.{TellsOuts}
use Rattle.srm_net.proofs.BuiltLemmas.{tree_in}
use Rattle.srm_net.proofs.tree.Tree.all_outs.Goals as goal

pub all_outs-requires : goal.all_outs-requires
all_outs-requires c =
    (network_inside c.self.inside, c.self.invariant.network, tree_in c.self.inside c.self.invariant, sym c.as_slice.ensures.value)

pub returns : goal.returns
returns c =
    subst (λ (w : Network). IfOk c.all_outs.result (λ all. TellsOuts w all.items)) c.self.view_is
    (c.all_outs.ensures (network_inside c.self.inside) c.self.invariant.network (tree_in c.self.inside c.self.invariant)
    (sym c.as_slice.ensures.value))
