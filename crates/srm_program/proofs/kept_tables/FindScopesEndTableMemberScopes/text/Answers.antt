use Rattle.std.proofs.Common.{length}
use Rattle.srm_report.specs.Scopes.{scopes_table}
use Rattle.srm_program.proofs.OrderlyRows.{orderly_rows}
use Rattle.srm_program.proofs.kept_tables.FindScopesEndTableMemberScopes.text.Goals as goal

pub returns : goal.returns
unfolding scopes_table
returns c seed rows exits of =
    let p = c.args.session.scenario.now in
    c.scopes_kept.ensures rows (length p.members) (orderly_rows p seed rows exits _ c.until.ensures.accepted of.outcome) of.many of.are
