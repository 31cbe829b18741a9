use Rattle.std.proofs.Common.{◌≡◌, ◌+◌, ◌-◌, ℕ, sym, subst, arith}
use Rattle.srm_net.specs.Nearness.{TellsUpTo}
use Rattle.srm_net.proofs.OutLemmas.{placed, up_none, up_done}
use Rattle.srm_net.proofs.outs.offer_up.Goals as goal

pub loop-index-init : goal.loop-index-init
loop-index-init c w n tree s o =
    up_none w _ n tree.rooted c.args.table.now _ _ tree.order (omega arith) s o

pub offer_to_parent-requires : goal.offer_to_parent-requires
offer_to_parent-requires c =
    let (w, n, tree, s, o) = c.requires in
    let ps = c.args.rooted.now.positions.items in
    let i : ℕ = c.loop-index.index - 1 in
    let k = placed w ps n tree.rooted _ c.as_slice-order.result.now i tree.order c.as_slice-order.ensures.value
    (omega (arith, c.loop-index-test.true)) (omega (arith, c.loop-index.auto.index, c.loop-index-test.true)) in
    let next : i + 1 ≡ c.loop-index.index = omega (arith, c.loop-index-test.true) in (
      w,
      k.0,
      subst (λ j. TellsUpTo w ps (j + 1) c.loop-index.table) (sym k.1)
          (subst (λ j. TellsUpTo w ps j c.loop-index.table) (sym next) (c.loop-index.invariant w n tree s o)),
    )

pub loop-index-preserved : goal.loop-index-preserved
loop-index-preserved c w n tree s o =
    let ps = c.args.rooted.now.positions.items in
    let i : ℕ = c.loop-index.index - 1 in
    let k = placed w ps n tree.rooted _ c.as_slice-order.result.now i tree.order c.as_slice-order.ensures.value
    (omega (arith, c.loop-index-test.true)) (omega (arith, c.loop-index.auto.index, c.loop-index-test.true)) in
    let next : i + 1 ≡ c.loop-index.index = omega (arith, c.loop-index-test.true) in
    subst (λ j. TellsUpTo w ps j c.offer_to_parent.new.table) k.1
    (c.offer_to_parent.ensures w k.0 (subst (λ j. TellsUpTo w ps (j + 1) c.loop-index.table) (sym k.1)
    (subst (λ j. TellsUpTo w ps j c.loop-index.table) (sym next) (c.loop-index.invariant w n tree s o))))

pub returns : goal.returns
returns c w n tree s o =
    up_done w _ n tree.rooted c.loop-index.table c.loop-index.index c.loop-index-test.false (c.loop-index.invariant w n tree s o)
