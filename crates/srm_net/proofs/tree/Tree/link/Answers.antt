use Rattle.std.proofs.Common.{◌≡◌, ◌∙◌, sym, ap, subst, get_or, slice_get}
use Rattle.srm_net.specs.Network.{Network}
use Rattle.srm_net.specs.Built.{network_inside}
use Rattle.srm_net.proofs.Lists.{read_get}
use Rattle.srm_net.proofs.BuiltLemmas.{seen_link}
use Rattle.srm_net.proofs.tree.Tree.link.Goals as goal

pub returns : goal.returns
returns c =
    let lt = seen_link (network_inside c.self.inside) c.args.self.now c.args.link c.self.view_is c.requires in
    let read = subst (λ i. c.index.result.now ≡ get_or c.self.inside.links.items i c.index.result.now) c.from.ensures c.index.ensures in
    ap (λ (w : Network). slice_get w.links c.args.link) (sym c.self.view_is)
    ∙ read_get c.self.inside.links.items c.args.link c.index.result.now lt read
