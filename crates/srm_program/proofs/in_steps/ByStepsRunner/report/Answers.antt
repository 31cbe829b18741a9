use Rattle.srm_program.proofs.ListedTexts.{timers_left, timers_shown, trace_left, trace_shown}
use Rattle.srm_program.proofs.in_steps.ByStepsRunner.report.Goals as goal

pub returns-in-Trace : goal.returns-in-Trace
returns-in-Trace g c =
    let o = c.args.task.options in
    let told = c.write_listing.ensures in
    record {
      failures = told.failures;
      report = λ seed h. trace_shown _ seed o.show _ _ _ c.in-Trace.is (told.table seed h);
      refusals = λ seed h. (
        told.refused seed h,
        trace_left _ seed o _ _ _ c.in-Trace.is (told.left seed h),
      );
    }

pub returns-in-Timers : goal.returns-in-Timers
returns-in-Timers g c =
    let o = c.args.task.options in
    let told = c.write_listing-in-Timers.ensures in
    record {
      failures = told.failures;
      report = λ seed h. timers_shown _ seed o.show _ _ _ c.in-Timers.is (told.table seed h);
      refusals = λ seed h. (
        told.refused seed h,
        timers_left _ seed o _ _ _ c.in-Timers.is (told.left seed h),
      );
    }
