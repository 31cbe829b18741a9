use Rattle.std.proofs.Common.{◌≤◌, ◌<◌, length, sym, subst, slice_index_or}
use Rattle.srm_net.proofs.Arrivals.{held_read, ordered, first_held, first_all}
use Rattle.srm_net.proofs.rooted.Rooted.arrive_below.Goals as goal

pub position-requires : goal.position-requires
position-requires c =
    let q = c.requires.rooted in
    subst (λ m. slice_index_or c.as_slice-node-items.result.now c.loop-node.node-index 0 < m) (sym q.2.rooted.long)
    (ordered q.0 _ q.2.rooted q.2.order c.as_slice-node-items.ensures.value c.loop-node-test.true).0

pub loop-node-preserved-then-holds : goal.loop-node-preserved-then-holds
loop-node-preserved-then-holds c w tree hf above =
    let k = ordered w _ tree.rooted tree.order c.as_slice-node-items.ensures.value c.loop-node-test.true in
    let held = held_read c.args.self.now.positions.items (slice_index_or c.as_slice-node-items.result.now c.loop-node.node-index 0)
    c.args.packet.from _ _ c.position.ensures c.position-from.ensures (c.holds.ensures.within c.if-holds.true) in
    first_held w _ tree.rooted k.0 k.1 held (c.loop-node.invariant w tree hf above)

pub arrive_at-requires-clause-rooted : goal.arrive_at-requires-clause-rooted
arrive_at-requires-clause-rooted c =
    let q = c.requires.rooted in
    let k = ordered q.0 _ q.2.rooted q.2.order c.as_slice-node-items.ensures.value c.loop-node-test.true in
    (q.0, q.1, q.2.rooted, q.3, k.0, rw k.1 (c.loop-node.invariant q.0 q.2 q.3 q.4))

pub loop-node-preserved : goal.loop-node-preserved
loop-node-preserved c w tree hf above =
    let k = ordered w _ tree.rooted tree.order c.as_slice-node-items.ensures.value c.loop-node-test.true in
    rw k.1 at (c.arrive_at.ensures w tree.rooted hf k.0 (rw k.1 (c.loop-node.invariant w tree hf above)))

pub returns : goal.returns
returns c w tree hf above =
    first_all w _ tree.rooted tree.order
    (subst (λ ns. length ns ≤ c.loop-node.node-index) c.as_slice-node-items.ensures.value c.loop-node-test.false)
    (c.loop-node.invariant w tree hf above)
