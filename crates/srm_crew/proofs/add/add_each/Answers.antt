use Rattle.std.proofs.Common.{◌∙◌, ap, arith}
use Rattle.srm_interfaces.specs.Crews.{counted_in}
use Rattle.srm_crew.proofs.Counts.{count_more, count_some}
use Rattle.srm_crew.proofs.add.add_each.Goals as goal

pub loop-done-preserved : goal.loop-done-preserved
loop-done-preserved g c =
    let i = c.loop-done.done-index in
    let was = c.loop-done.invariant in
    let new = c.in-Ok.ensures in record {
      ledger = new.ledger ∙ was.ledger;
      weight = new.weight ∙ was.weight;
      shares = λ k.
          let a = new.shares k in
          let b = was.shares k in
          let e = count_more g.D.Counted.numbers k c.args.all.now i c.done-item.result c.loop-done-test.true c.done-item.is in
          let same = ap (λ ns. counted_in ns k) c.crossings.ensures in
          omega (arith, a, b, e, same);
      seen = new.seen ∙ was.seen;
    }

pub returns-in-Err : goal.returns-in-Err
returns-in-Err g c =
    let i = c.loop-done.done-index in
    let was = c.loop-done.invariant in
    let past = c.in-Err.ensures in
    let k = past.0 in (
      k,
      (let a = past.1 in
          let b = was.shares k in
          let e = count_some g.D.Counted.numbers k c.args.all.now i c.done-item.result c.loop-done-test.true c.done-item.is in
          let same = ap (λ ns. counted_in ns k) c.crossings.ensures in
          omega (arith, a, b, e, same)),
    )
