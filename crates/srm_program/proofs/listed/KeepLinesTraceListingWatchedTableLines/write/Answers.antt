use Rattle.srm_program.proofs.ListedTexts.{trace_left, trace_shown}
use Rattle.srm_program.proofs.listed.KeepLinesTraceListingWatchedTableLines.write.Goals as goal

pub returns : goal.returns
returns g c =
    let task = c.args.asked.task in
    let p = task.session.scenario.now in
    let told = c.write_lines.ensures in record {
      failures = told.failures;
      report = λ seed h. trace_shown p seed task.options.show _ _ _ c.requires.may.shown (told.table seed h);
      refusals = λ seed h. (told.refused seed h, trace_left p seed task.options _ _ _ c.requires.may.shown (told.left seed h));
    }
