use Rattle.std.proofs.Common.{◌∙◌, Some, arith}
use Rattle.srm_engine.specs.declared.soonest.Soonest.{Soonest}
use Rattle.srm_engine.proofs.SoonLemmas.{least_of_all, least_so_far}
use Rattle.srm_engine.proofs.soonest.least_promise.Goals as goal

pub loop-soonest-preserved : goal.loop-soonest-preserved
loop-soonest-preserved c =
    c.least_with-best.ensures
    ∙ least_so_far (λ (x : Soonest). Some x.promise) c.args.until c.args.soon.now c.loop-soonest.soonest-index
    (record { time = 0; promise = 0 }) c.loop-soonest.best c.loop-soonest-test.true c.loop-soonest.invariant

pub returns : goal.returns
returns c =
    let past = c.loop-soonest-test.false in
    least_of_all (λ (x : Soonest). Some x.promise) c.args.until c.args.soon.now c.loop-soonest.soonest-index c.loop-soonest.best
    (omega arith) c.loop-soonest.invariant
