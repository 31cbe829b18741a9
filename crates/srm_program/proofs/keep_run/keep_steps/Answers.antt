use Rattle.std.proofs.Common.{◌∙◌}
use Rattle.std.proofs.lemmas.Result.{err_from_is_err_and}
use Rattle.srm_program.proofs.KeptTables.{steps_kept, steps_refused}
use Rattle.srm_program.proofs.keep_run.keep_steps.Goals as goal

pub returns : goal.returns
returns g c =
    steps_kept g.W.Watch.keeps c.args.watch c.args.asked.task _ c.in-Ok.sink c.hand_rows.new.sink c.into_kept.result c.in_ok-totals.totals
    c.in-Ok.ensures.watch (c.in-Ok.ensures.many ∙ c.from-members.ensures ∙ c.members.ensures) c.in-Ok.ensures.kept c.into_kept.ensures
    c.in_ok-totals.ensures.rows

pub returns-in_err-totals : goal.returns-in_err-totals
returns-in_err-totals g c =
    let p = err_from_is_err_and c.from_residual.result c.from_residual.ensures.1 in
    rw (p.1, p.2) (steps_refused g.W.Watch.keeps c.args.watch c.args.asked.task _ c.in-Ok.sink c.hand_rows.new.sink _
    c.in_err-totals.ensures.failures c.in_err-totals.ensures.rows)
