use Rattle.std.proofs.Common.{◌≡◌, sym, ap, ◌∙◌, heap_items, arith}
use Rattle.std.proofs.lemmas.List.{take_all}
use Rattle.srm_net.proofs.Basics.{one_if}
use Rattle.srm_cell.specs.Flights.{arriving_before}
use Rattle.srm_cell.proofs.Arrivals.{arrives, arriving_few, arriving_more, arriving_ordered}
use Rattle.srm_cell.proofs.strays.Strays.arriving_before.Goals as goal
use Rattle.srm_cell.proofs.strays.Strays.arriving_before.Goals.{then-place-till, else-place-till}

pub overflow_add-count : goal.overflow_add-count
overflow_add-count c =
    let few = arriving_few c.args.till c.as_slice-strays.result.now c.loop-i.i in
    let so_far = c.loop-i.invariant in
    let more = c.loop-i-test.true in
    omega arith

pub loop-i-preserved : goal.loop-i-preserved
loop-i-preserved c =
    let stray = c.index-strays-i.result in
    let more = arriving_more c.args.till c.as_slice-strays.result.now c.loop-i.i stray c.loop-i-test.true c.index-strays-i.is in
    let so_far = c.loop-i.invariant in
    elim c.if-place-till.branch [
      | then-place-till w ↦
          let one : one_if (arrives c.args.till stray) ≡ 1 = grind arith in
          let count = w.count-is in
          omega arith
      | else-place-till w ↦
          let none : one_if (arrives c.args.till stray) ≡ 0 = grind arith in
          let count = w.count-is in
          omega arith
    ]

pub returns : goal.returns
returns c =
    let till = c.args.till in
    c.loop-i.invariant
    ∙ ap (arriving_before till) (take_all c.loop-i.i c.as_slice-strays.result.now c.loop-i-test.false ∙ c.as_slice-strays.ensures.value)
    ∙ sym (arriving_ordered till (heap_items c.self.inside.waiting))
    ∙ ap (arriving_before till) c.self.view_is
