use Rattle.std.proofs.Common.{◌≡◌, Some, arith, map, slice_get}
use Rattle.toml.specs.View.{view}
use Rattle.srm_explain.proofs.Values.{made_more, value_at}
use Rattle.srm_explain.proofs.copies.copied_at.Goals as goal

pub returns-then-left-times : goal.returns-then-left-times
returns-then-left-times c =
    let vs = c.args.values.now in
    let v = c.index-values-written.result in
    let at : slice_get (map view vs) c.loop-written.written ≡ Some (view v) =
    value_at vs c.loop-written.written v c.loop-written-test.true c.index-values-written.is in
    (view v, at, c.times_repeated-times.ensures.times, c.if-left-times.true, c.loop-written.invariant)

pub loop-written-preserved : goal.loop-written-preserved
loop-written-preserved c =
    let vs = c.args.values.now in
    let i = c.loop-written.written in
    let v = c.index-values-written.result in
    let more = made_more vs i v c.loop-written-test.true c.index-values-written.is in
    omega (arith, more, c.times_repeated-times.ensures.times)
