use Rattle.std.proofs.Common.{◌∙◌}
use Rattle.srm_net.specs.Built.{network_inside}
use Rattle.srm_net.proofs.Beyond.{read_a, read_b}
use Rattle.srm_net.proofs.BuiltLemmas.{seen_below, link_seen, beyond_seen, end_below, rooted_in, position_there}
use Rattle.srm_net.proofs.tree.Tree.is_beyond.Goals as goal

pub position-near-requires : goal.position-near-requires
position-near-requires c =
    position_there c.self.inside c.self.invariant c.link-spec.result.a
    (end_below c.self.inside c.self.invariant c.args.link c.link-spec.result (link_seen (network_inside c.self.inside) c.args.self.now
    c.self.view_is c.args.link c.link-spec.result c.link-spec.ensures)).0

pub position-far-requires : goal.position-far-requires
position-far-requires c =
    position_there c.self.inside c.self.invariant c.link-spec.result.b
    (end_below c.self.inside c.self.invariant c.args.link c.link-spec.result (link_seen (network_inside c.self.inside) c.args.self.now
    c.self.view_is c.args.link c.link-spec.result c.link-spec.ensures)).1

pub position-place-requires : goal.position-place-requires
position-place-requires c =
    position_there c.self.inside c.self.invariant c.args.node
    (seen_below (network_inside c.self.inside) c.args.self.now c.args.node c.self.view_is c.requires.node)

pub returns-then-near-far : goal.returns-then-near-far
returns-then-near-far c k g =
    read_b (network_inside c.self.inside) c.self.inside.rooted.positions.items (rooted_in c.self.inside c.self.invariant) c.args.link
    c.link-spec.result
    (link_seen (network_inside c.self.inside) c.args.self.now c.self.view_is c.args.link c.link-spec.result c.link-spec.ensures) c.args.node
    (seen_below (network_inside c.self.inside) c.args.self.now c.args.node c.self.view_is c.requires.node) c.position-near.result
    c.position-far.result c.position-place.result c.position-near.ensures c.position-far.ensures c.position-place.ensures
    c.if-near-far.true c.holds.result c.holds.ensures.within c.holds.ensures.whole
    ∙ beyond_seen (network_inside c.self.inside) c.args.self.now c.self.view_is c.args.link c.args.node c.link-spec.result k
    c.link-spec.ensures g

pub returns-else-near-far : goal.returns-else-near-far
returns-else-near-far c k g =
    read_a (network_inside c.self.inside) c.self.inside.rooted.positions.items (rooted_in c.self.inside c.self.invariant) c.args.link
    c.link-spec.result
    (link_seen (network_inside c.self.inside) c.args.self.now c.self.view_is c.args.link c.link-spec.result c.link-spec.ensures) c.args.node
    (seen_below (network_inside c.self.inside) c.args.self.now c.args.node c.self.view_is c.requires.node) c.position-near.result
    c.position-far.result c.position-place.result c.position-near.ensures c.position-far.ensures c.position-place.ensures
    c.if-near-far.false c.holds-else-near-far.result c.holds-else-near-far.ensures.within c.holds-else-near-far.ensures.whole
    ∙ beyond_seen (network_inside c.self.inside) c.args.self.now c.self.view_is c.args.link c.args.node c.link-spec.result k
    c.link-spec.ensures g
