use Rattle.std.proofs.Common.{◌≡◌, ◌∙◌, ◌+◌, ◌-◌, ◌^◌, ◌<◌, ◌≤◌, None, IfSome, length, refl, sym, ap, subst, arith}
use Rattle.std.proofs.Common.{slice_set, slice_index_or}
use Rattle.srm_net.specs.Limits.{most_nodes}
use Rattle.srm_net.specs.Paths.{takes_out}
use Rattle.srm_net.specs.Spreads.{past_link}
use Rattle.srm_net.proofs.Arrivals.{Climbed, climbed_none, climbed_all, upwards_read}
use Rattle.srm_net.proofs.rooted.Rooted.arrive_above.Goals as goal

pub loop-node-init : goal.loop-node-init
loop-node-init c w r hf =
    climbed_none w c.args.self.now.positions.items r (takes_out c.args.drops.now c.args.packet.id) c.args.packet.from c.args.packet.sent
    c.args.arrivals.now hf (c.requires.size ∙ r.long) c.requires.home

pub position-here-requires : goal.position-here-requires
position-here-requires c =
    let q = c.requires.rooted in
    subst (λ n. c.loop-node.node < n) (sym q.2.long) (c.loop-node.invariant q.0 q.2 q.3).node

pub position-requires : goal.position-requires
position-requires c =
    let q = c.requires.rooted in
    subst (λ n. c.position-here.result.parent < n) (sym q.2.long)
    (upwards_read q.0 _ q.2 q.3 c.loop-node-test.true (c.loop-node.invariant q.0 q.2 q.3) c.position-here.ensures refl).node

pub overflow_sub-ticks : goal.overflow_sub-ticks
overflow_sub-ticks c =
    let q = c.requires.rooted in
    (upwards_read q.0 _ q.2 q.3 c.loop-node-test.true (c.loop-node.invariant q.0 q.2 q.3) c.position-here.ensures c.position.ensures).less

pub offset_bounds-arrivals-from : goal.offset_bounds-arrivals-from
offset_bounds-arrivals-from c =
    let q = c.requires.rooted in
    let node : c.loop-node.node < q.0.nodes = (c.loop-node.invariant q.0 q.2 q.3).node in
    let few : q.0.nodes ≤ most_nodes = q.2.tree.few_nodes in
    let is : c.from.result ≡ c.loop-node.node = c.from.ensures in
    omega arith

pub slice_copy_out-at : goal.slice_copy_out-at
slice_copy_out-at c =
    let q = c.requires.rooted in
    let inv = c.loop-node.invariant q.0 q.2 q.3 in
    let node : c.loop-node.node < q.0.nodes = inv.node in
    let size : length c.loop-node.arrivals ≡ q.0.nodes = inv.size in
    let is : c.from.result ≡ c.loop-node.node = c.from.ensures in
    omega arith

pub past-requires-clause-in_time : goal.past-requires-clause-in_time
past-requires-clause-in_time c =
    let q = c.requires.rooted in
    let ticks = c.position-here.result.up - c.position.result.up in
    let up = upwards_read q.0 _ q.2 q.3 c.loop-node-test.true (c.loop-node.invariant q.0 q.2 q.3) c.position-here.ensures
    c.position.ensures in
    subst (λ i. IfSome (slice_index_or c.loop-node.arrivals i None) (λ k. k + ticks < 2 ^ 64)) (sym c.from.ensures)
    (up.in_time q.1 c.requires.sent)

pub bounds-arrivals-from : goal.bounds-arrivals-from
bounds-arrivals-from c =
    let q = c.requires.rooted in
    let up = upwards_read q.0 _ q.2 q.3 c.loop-node-test.true (c.loop-node.invariant q.0 q.2 q.3) c.position-here.ensures
    c.position.ensures in
    let node : c.position-here.result.parent < q.0.nodes = up.node in
    let size : length c.loop-node.arrivals ≡ q.0.nodes = (c.loop-node.invariant q.0 q.2 q.3).size in
    let is : c.from-in-loop-node.result ≡ c.position-here.result.parent = c.from-in-loop-node.ensures in
    omega arith

pub loop-node-smaller : goal.loop-node-smaller
loop-node-smaller c =
    let q = c.requires.rooted in
    (upwards_read q.0 _ q.2 q.3 c.loop-node-test.true (c.loop-node.invariant q.0 q.2 q.3) c.position-here.ensures refl).lower

pub loop-node-preserved : goal.loop-node-preserved
loop-node-preserved c w r hf =
    let out = takes_out c.args.drops.now c.args.packet.id in
    let past = past_link out c.position-here.result.link (c.position-here.result.up - c.position.result.up) in
    let up = upwards_read w _ r hf c.loop-node-test.true (c.loop-node.invariant w r hf) c.position-here.ensures c.position.ensures in
    subst (λ i. Climbed w c.args.self.now.positions.items r out c.args.packet.from c.args.packet.sent c.position-here.result.parent
    (slice_set c.loop-node.arrivals i c.past.result)) (sym c.from-in-loop-node.ensures)
    (up.climbed c.past.result (c.past.ensures ∙ ap (λ i. past (slice_index_or c.loop-node.arrivals i None)) c.from.ensures))

pub returns : goal.returns
returns c w r hf =
    climbed_all w c.args.self.now.positions.items r (takes_out c.args.drops.now c.args.packet.id) c.args.packet.from c.args.packet.sent
    c.loop-node.node c.loop-node.arrivals c.loop-node-test.false (c.loop-node.invariant w r hf)
