use Rattle.std.proofs.Common.{◌≡◌, ◌∙◌, ◌++◌, [], Some, ap}
use Rattle.srm_report.specs.Tables.{table_lines}
use Rattle.srm_program.specs.Reports.{columns_shown, rows_of_run, report_of}
use Rattle.srm_program.proofs.ReplicationLemmas.{columns_are_line, rows_are_lines, whole_told}
use Rattle.srm_program.proofs.replicating.lines_of_run.Goals as goal

pub returns-in-Ok-seeded_lines : goal.returns-in-Ok-seeded_lines
returns-in-Ok-seeded_lines c =
    let p = c.args.session.scenario.now in
    let show = c.args.options.show in
    let told = whole_told (Unit {0}) tt p c.args.seed show
    (Some c.new-outlet.result.writer.items) (Some c.run_members.new.outlet.writer.items) c.in-Ok.ensures.report in
    let w = told.0 in
    let none : c.new-outlet.result.writer.items ≡ [] = ap (λ v. v.items) c.new-outlet.ensures.writer ∙ c.new.ensures.items in
    let table : c.as_slice.result.now ≡ table_lines (columns_shown show) (rows_of_run show p w) =
    c.as_slice.ensures.value ∙ ap (λ v. v.items) c.into_inner-table.ensures ∙ told.2 ∙ ap (λ l. l ++ report_of show p w) none in (
      w,
      told.1,
      c.in-Ok-seeded_lines.ensures (columns_shown show) (rows_of_run show p w) (columns_are_line show)
          (rows_are_lines show p w.trace _) table,
    )
