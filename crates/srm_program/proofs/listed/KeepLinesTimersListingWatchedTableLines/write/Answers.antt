use Rattle.srm_program.proofs.ListedTexts.{timers_left, timers_shown}
use Rattle.srm_program.proofs.listed.KeepLinesTimersListingWatchedTableLines.write.Goals as goal

pub returns : goal.returns
returns g c =
    let task = c.args.asked.task in
    let p = task.session.scenario.now in
    let told = c.write_lines.ensures in record {
      failures = told.failures;
      report = λ seed h. timers_shown p seed task.options.show _ _ _ c.requires.may.shown (told.table seed h);
      refusals = λ seed h. (told.refused seed h, timers_left p seed task.options _ _ _ c.requires.may.shown (told.left seed h));
    }
