use Rattle.std.proofs.Common.{ap, ◌∙◌}
use Rattle.srm_crew.proofs.WorkedLemmas.{worked_none, worked_more, stops_after, item_worked, item_stops, ready_at}
use Rattle.srm_crew.proofs.worker.work_alone.Goals as goal

pub loop-init : goal.loop-init
loop-init g c = record { worked = worked_none _ _ _ _ _; bag = c.requires.bag; ledger = c.requires.seat }

pub work_on-requires-clause-ready : goal.work_on-requires-clause-ready
work_on-requires-clause-ready g c =
    ready_at (λ x. goal.F-pre g c.args.work x) c.args.pass.put c.loop.pass c.take.new.pass c.in-Some-take.item
    (ap (λ p. p.put) c.loop.invariant.worked.taken) c.requires.ready c.in-Some-take.ensures.taken

pub work_on-requires-clause-long : goal.work_on-requires-clause-long
work_on-requires-clause-long g c = λ d came.
    c.requires.long c.in-Some-take.item d
    (ready_at (λ x. goal.F-pre g c.args.work x) c.args.pass.put c.loop.pass c.take.new.pass c.in-Some-take.item
    (ap (λ p. p.put) c.loop.invariant.worked.taken) c.requires.ready c.in-Some-take.ensures.taken) came

pub loop-preserved : goal.loop-preserved
loop-preserved g c = record {
  worked = worked_more _ _ _ _ _ _ _ _ _ _ _ c.loop.invariant.worked
      (item_worked _ _ c.loop.pass c.take.new.pass c.loop.seat c.work_on.new.seat c.loop.results c.work_on.new.results
      c.in-Some-take.item c.in-Some-take.ensures.taken c.in-Ok.ensures);
  bag = c.in-Some-take.ensures.bag ∙ c.loop.invariant.bag;
  ledger = c.in-Ok.ensures.3.ledger ∙ c.loop.invariant.ledger;
}

pub returns-in-Err-clause-work : goal.returns-in-Err-clause-work
returns-in-Err-clause-work g c =
    stops_after (λ x r. goal.F-post g c.args.work x r) g.D.Counted.numbers _ _ _ _ _ _ _ c.loop.invariant.worked
    (item_stops (λ x r. goal.F-post g c.args.work x r) g.D.Counted.numbers c.loop.pass c.take.new.pass c.loop.seat c.work_on.new.seat
    c.loop.results c.work_on.new.results
    c.in-Some-take.item c.in-Err.fault c.in-Some-take.ensures.taken c.in-Err.ensures)
