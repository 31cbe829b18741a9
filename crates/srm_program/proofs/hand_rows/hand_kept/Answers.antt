use Rattle.std.proofs.Common.{ℕ, List}
use Rattle.srm_program.proofs.RunRefusals.{failures_after, stands_after, windows_refused}
use Rattle.srm_program.proofs.hand_rows.hand_kept.Goals as goal

pub returns-in-Err : goal.returns-in-Err
returns-in-Err g c =
    let told = c.in-Err.ensures in
    let fault = c.in-Err.fault in
    let named = c.lab_fault.ensures in record {
      device = told.sink.device;
      stands = rw named (stands_after (List ℕ) (List ℕ) fault _ told.sink.stands);
      failures = rw named (failures_after (List ℕ) (List ℕ) fault _ _ told.sink.failures);
      rows = λ seed h.
          rw named
          (windows_refused g.S.RowSink.took g.S.RowSink.part c.args.asked.task.session.scenario.now seed
          c.args.asked.task.options c.args.sink.now fault c.window_kept.new.sink (List ℕ) c.requires.windows
          told.asked told.left (told.refused seed h) (told.totals seed h));
    }
