use Rattle.std.proofs.Common.{◌+◌, ◌≤◌, length, sym, subst}
use Rattle.srm_net.specs.Nearness.{TellsDownTo}
use Rattle.srm_net.proofs.OutLemmas.{placed, down_done}
use Rattle.srm_net.proofs.outs.offer_down.Goals as goal

pub offer_from_parent-requires : goal.offer_from_parent-requires
offer_from_parent-requires c =
    let (w, n, tree, told) = c.requires in
    let ps = c.args.rooted.now.positions.items in
    let k = placed w ps n tree.rooted _ c.as_slice-order.result.now c.loop-index.index tree.order c.as_slice-order.ensures.value
    c.loop-index.auto.index c.loop-index-test.true in
    (w, k.0, subst (λ j. TellsDownTo w ps j c.loop-index.table) (sym k.1) (c.loop-index.invariant w n tree told))

pub loop-index-preserved : goal.loop-index-preserved
loop-index-preserved c w n tree told =
    let ps = c.args.rooted.now.positions.items in
    let k = placed w ps n tree.rooted _ c.as_slice-order.result.now c.loop-index.index tree.order c.as_slice-order.ensures.value
    c.loop-index.auto.index c.loop-index-test.true in
    subst (λ j. TellsDownTo w ps (j + 1) c.offer_from_parent.new.table) k.1
    (c.offer_from_parent.ensures w k.0 (subst (λ j. TellsDownTo w ps j c.loop-index.table) (sym k.1)
    (c.loop-index.invariant w n tree told)))

pub returns-clause-nearest : goal.returns-clause-nearest
returns-clause-nearest c w n tree told =
    down_done w _ n tree.rooted c.loop-index.table _ c.loop-index.index tree.order
    (subst (λ ns. length ns ≤ c.loop-index.index) c.as_slice-order.ensures.value c.loop-index-test.false)
    (c.loop-index.invariant w n tree told)
