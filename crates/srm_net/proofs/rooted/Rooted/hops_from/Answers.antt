use Rattle.std.proofs.Common.{◌≡◌, ◌∙◌, ◌+◌, ◌-◌, ◌<◌, ◌≤◌, Some, length, sym, ap, subst, arith, slice_get, slice_set}
use Rattle.std.proofs.Common.{slice_index_or}
use Rattle.srm_net.specs.declared.position.Position.{Position}
use Rattle.srm_net.specs.Limits.{most_nodes}
use Rattle.srm_net.specs.Paths.{hops_between}
use Rattle.srm_net.specs.Rooting.{at}
use Rattle.srm_net.proofs.Lists.{get_index}
use Rattle.srm_net.proofs.Arrivals.{held_read, not_held_read, ordered}
use Rattle.srm_net.proofs.HopTables.{Counted, Above, Below, counted_more, counted_all, hops_above, hops_below}
use Rattle.srm_net.proofs.rooted.Rooted.hops_from.Goals as goal

pub position-there-requires : goal.position-there-requires
position-there-requires c =
    let q = c.requires.rooted in
    let x = slice_index_or c.as_slice-node-items.result.now c.loop-node.node-index 0 in
    subst (λ m. x < m) (sym q.2.rooted.long)
    (ordered q.0 _ q.2.rooted q.2.order c.as_slice-node-items.ensures.value c.loop-node-test.true).0

pub overflow_sub-here : goal.overflow_sub-here
overflow_sub-here c =
    let q = c.requires.rooted in
    let w = q.0 in
    let ps = c.args.self.now.positions.items in
    let x = slice_index_or c.as_slice-node-items.result.now c.loop-node.node-index 0 in
    let k = ordered q.0 _ q.2.rooted q.2.order c.as_slice-node-items.ensures.value c.loop-node-test.true in
    let a : Above w ps q.2.rooted c.args.from x = hops_above w ps q.2.rooted c.args.from x q.3 k.0
    (held_read ps x c.args.from c.position-there.result c.position-here.result c.position-there.ensures c.position-here.ensures
    (c.holds.ensures.within c.if-holds.true)) in
    let low : (at ps x).depth ≤ (at ps c.args.from).depth = a.low in
    let there : c.position-there.result.depth ≡ (at ps x).depth = ap (λ (z : Position). z.depth) c.position-there.ensures in
    let here : c.position-here.result.depth ≡ (at ps c.args.from).depth = ap (λ (z : Position). z.depth) c.position-here.ensures in
    omega arith

pub index-requires : goal.index-requires
index-requires c =
    let q = c.requires.rooted in
    let w = q.0 in
    let ps = c.args.self.now.positions.items in
    let x = slice_index_or c.as_slice-node-items.result.now c.loop-node.node-index 0 in
    let k = ordered q.0 _ q.2.rooted q.2.order c.as_slice-node-items.ensures.value c.loop-node-test.true in
    let b : Below w ps q.2.rooted c.args.from x = hops_below w ps q.2.rooted c.args.from x q.3 k.0
    (not_held_read ps x c.args.from c.position-there.result c.position-here.result c.holds.result c.position-there.ensures
    c.position-here.ensures c.holds.ensures.whole c.if-holds.false) in
    let parent : c.position-there.result.parent ≡ (at ps x).parent = ap (λ (z : Position). z.parent) c.position-there.ensures in
    let node : (at ps x).parent < w.nodes = b.node in
    let size : length c.loop-node.hops.items ≡ w.nodes = (c.loop-node.invariant w q.2 q.3).size in
    let is : c.from-in-loop-node.result ≡ c.position-there.result.parent = c.from-in-loop-node.ensures in
    let vec : c.loop-node.hops.len ≡ length c.loop-node.hops.items = c.loop-node.hops.ok.0 in
    omega arith

pub overflow_add-index : goal.overflow_add-index
overflow_add-index c =
    let q = c.requires.rooted in
    let w = q.0 in
    let ps = c.args.self.now.positions.items in
    let u = c.args.from in
    let i = c.loop-node.node-index in
    let x = slice_index_or c.as_slice-node-items.result.now i 0 in
    let k = ordered q.0 _ q.2.rooted q.2.order c.as_slice-node-items.ensures.value c.loop-node-test.true in
    let hops = c.loop-node.hops.items in
    let b : Below w ps q.2.rooted u x = hops_below w ps q.2.rooted u x q.3 k.0
    (not_held_read ps x u c.position-there.result c.position-here.result c.holds.result c.position-there.ensures
    c.position-here.ensures c.holds.ensures.whole c.if-holds.false) in
    let p = (at ps x).parent in
    let parent : c.position-there.result.parent ≡ p = ap (λ (z : Position). z.parent) c.position-there.ensures in
    let counted : Counted w ps q.2.rooted u i hops = c.loop-node.invariant w q.2 q.3 in
    let place : (at ps x).place ≡ i = k.1 in
    let lower : (at ps p).place < (at ps x).place = b.lower in
    let stood : slice_get hops p ≡ Some (hops_between w u p) = counted.told p b.node (omega arith) in
    let read : c.index.result.now ≡ hops_between w u p =
    c.index.ensures ∙ get_index hops c.from-in-loop-node.result (hops_between w u p) c.index.result.now
    (ap (slice_get hops) (c.from-in-loop-node.ensures ∙ parent) ∙ stood) in
    let few : hops_between w u p + 1 < w.nodes = b.few in
    let nodes : w.nodes ≤ most_nodes = q.2.rooted.tree.few_nodes in
    omega arith

pub loop-node-preserved-then-holds : goal.loop-node-preserved-then-holds
loop-node-preserved-then-holds c w tree hf =
    let ps = c.args.self.now.positions.items in
    let u = c.args.from in
    let i = c.loop-node.node-index in
    let x = slice_index_or c.as_slice-node-items.result.now i 0 in
    let k = ordered w _ tree.rooted tree.order c.as_slice-node-items.ensures.value c.loop-node-test.true in
    let hops = c.loop-node.hops.items in
    let a : Above w ps tree.rooted u x = hops_above w ps tree.rooted u x hf k.0
    (held_read ps x u c.position-there.result c.position-here.result c.position-there.ensures c.position-here.ensures
    (c.holds.ensures.within c.if-holds.true)) in
    let there : c.position-there.result.depth ≡ (at ps x).depth = ap (λ (z : Position). z.depth) c.position-there.ensures in
    let here : c.position-here.result.depth ≡ (at ps u).depth = ap (λ (z : Position). z.depth) c.position-here.ensures in
    let is : (at ps u).depth - (at ps x).depth ≡ hops_between w u x = a.is in
    let v = c.position-here.result.depth - c.position-there.result.depth in
    subst (λ j. Counted w ps tree.rooted u (i + 1) (slice_set hops j v)) (sym c.from.ensures)
    (counted_more w ps tree.rooted u i x hops v k.0 k.1 (c.loop-node.invariant w tree hf)
    (ap (λ n. n - c.position-there.result.depth) here ∙ ap (λ n. (at ps u).depth - n) there ∙ is))

pub loop-node-preserved : goal.loop-node-preserved
loop-node-preserved c w tree hf =
    let ps = c.args.self.now.positions.items in
    let u = c.args.from in
    let i = c.loop-node.node-index in
    let x = slice_index_or c.as_slice-node-items.result.now i 0 in
    let k = ordered w _ tree.rooted tree.order c.as_slice-node-items.ensures.value c.loop-node-test.true in
    let hops = c.loop-node.hops.items in
    let b : Below w ps tree.rooted u x = hops_below w ps tree.rooted u x hf k.0
    (not_held_read ps x u c.position-there.result c.position-here.result c.holds.result c.position-there.ensures
    c.position-here.ensures c.holds.ensures.whole c.if-holds.false) in
    let p = (at ps x).parent in
    let parent : c.position-there.result.parent ≡ p = ap (λ (z : Position). z.parent) c.position-there.ensures in
    let counted : Counted w ps tree.rooted u i hops = c.loop-node.invariant w tree hf in
    let place : (at ps x).place ≡ i = k.1 in
    let lower : (at ps p).place < (at ps x).place = b.lower in
    let stood : slice_get hops p ≡ Some (hops_between w u p) = counted.told p b.node (omega arith) in
    let read : c.index.result.now ≡ hops_between w u p =
    c.index.ensures ∙ get_index hops c.from-in-loop-node.result (hops_between w u p) c.index.result.now
    (ap (slice_get hops) (c.from-in-loop-node.ensures ∙ parent) ∙ stood) in
    subst (λ j. Counted w ps tree.rooted u (i + 1) (slice_set hops j (c.index.result.now + 1))) (sym c.from-in-loop-node-2.ensures)
    (counted_more w ps tree.rooted u i x hops (c.index.result.now + 1) k.0 k.1 counted (ap (λ n. n + 1) read ∙ b.is))

pub returns : goal.returns
returns c w tree hf =
    counted_all w c.args.self.now.positions.items tree.rooted c.args.from c.loop-node.node-index c.args.self.now.order.items
    c.loop-node.hops.items tree.order
    (subst (λ ns. length ns ≤ c.loop-node.node-index) c.as_slice-node-items.ensures.value c.loop-node-test.false)
    (c.loop-node.invariant w tree hf)
