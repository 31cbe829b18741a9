use Rattle.std.proofs.Common.{subst}
use Rattle.std.proofs.lemmas.Result.{err_from_is_err_and}
use Rattle.srm_engine.specs.Openings.{seed_in}
use Rattle.srm_program.specs.Askings.{IsKept}
use Rattle.srm_program.specs.Reports.{table_shown}
use Rattle.srm_program.proofs.KeptTables.{kept_report, refused_report, rows_kept}
use Rattle.srm_program.proofs.at_end.write_kept.Goals as goal

pub text-requires : goal.text-requires
text-requires g c =
    let keeps = g.T.Watch.keeps c.args.table in
    let rs = c.requires.kept.0 in
    let kept = subst (IsKept keeps c.args.task rs) c.in_ok-kept.was c.requires.kept.2 in
    let t = rows_kept keeps c.args.task rs _ c.as_slice.result.now c.as_slice.ensures.value kept (seed_in rs) c.requires.kept.1 in
    (seed_in rs, t.0, t.1, t.2)

pub returns : goal.returns
returns g c rs opening kept =
    let keeps = g.T.Watch.keeps c.args.table in
    kept_report keeps (Unit {0}) g.O.Outlet c.args.task rs g.T.EndTable.table g.T.EndTable.is_whole c.requires.shown
    c.args.outlet.now c.write_text.new.outlet _ c.as_slice.result.now c.write_text.result c.as_slice.ensures.value
    (subst (IsKept keeps c.args.task rs) c.in_ok-kept.was kept) c.write_text.ensures.failures
    (λ seed h rows exits of. c.write_text.ensures.taken
    (table_shown g.T.EndTable.table c.args.task.session.scenario.now rows _)
    (c.text.ensures seed rows exits of))

pub returns-in_err-kept : goal.returns-in_err-kept
returns-in_err-kept g c rs opening kept =
    let keeps = g.T.Watch.keeps c.args.table in
    let p = err_from_is_err_and c.from_residual.result c.from_residual.ensures.1 in
    rw (p.1, p.2) (refused_report keeps (Unit {0}) g.O.Outlet c.args.task rs g.T.EndTable.table g.T.EndTable.is_whole c.requires.shown
    c.args.outlet.now _ opening (subst (IsKept keeps c.args.task rs) c.in_err-kept.was kept))
