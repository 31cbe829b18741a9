use Rattle.std.proofs.Common.{ℕ, List}
use Rattle.srm_program.proofs.RunRefusals.{failures_after, stands_after, steps_refused}
use Rattle.srm_program.proofs.hand_rows.hand_rows.Goals as goal

pub returns-in-Err : goal.returns-in-Err
returns-in-Err g c = record {
  device = c.in-Err.ensures.sink.device;
  stands = rw c.lab_fault.ensures (stands_after (List ℕ) (List ℕ) c.in-Err.fault _ c.in-Err.ensures.sink.stands);
  failures = rw c.lab_fault.ensures (failures_after (List ℕ) (List ℕ) c.in-Err.fault _ _ c.in-Err.ensures.sink.failures);
  rows = λ seed h.
      rw c.lab_fault.ensures
      (steps_refused g.S.RowSink.took g.S.RowSink.part c.args.asked.task.session.scenario.now seed
      c.args.asked.task.options c.args.sink.now c.in-Err.fault c.step_rows.new.sink c.requires.steps
      (c.in-Err.ensures.refused seed h) (c.in-Err.ensures.totals seed h));
}
