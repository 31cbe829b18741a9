use Rattle.std.proofs.Common.{◌∙◌, ap, arith, ◌<◌, length, get_or}
use Rattle.srm_net.specs.Network.{Network}
use Rattle.srm_net.specs.Least.{out}
use Rattle.srm_net.proofs.Lists.{get_below, get_index}
use Rattle.srm_net.proofs.BuiltLemmas.{seen_member}
use Rattle.srm_net.proofs.net.Net.out.Goals as goal

pub index-requires : goal.index-requires
index-requires c =
    let w = c.self.inside.tree.value in
    let lt = seen_member w c.args.self.now c.args.m c.self.view_is c.requires in
    let k : c.args.m < length c.self.inside.outs.items = get_below c.self.inside.outs.items c.args.m (out w c.args.m)
    (c.self.invariant.outs c.args.m lt) in
    omega (arith, c.self.inside.outs.ok.0)

pub returns-clause-value : goal.returns-clause-value
returns-clause-value c =
    let w = c.self.inside.tree.value in
    let lt = seen_member w c.args.self.now c.args.m c.self.view_is c.requires in
    let e = get_index c.self.inside.outs.items c.args.m (out w c.args.m) c.index.result.now (c.self.invariant.outs c.args.m lt) in
    c.index.ensures ∙ ap (λ i. get_or c.self.inside.outs.items i c.index.result.now) c.from.ensures ∙ e
    ∙ ap (λ (v : Network). out v c.args.m) c.self.view_is
