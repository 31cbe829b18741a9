use Rattle.std.proofs.Common.{take}
use Rattle.srm_report.specs.KeptScopes.{KeepsMore}
use Rattle.srm_report.proofs.scopes.find_scopes.FindScopesWatchMemberScopes.add.Given as goal

-- the rows so far were taken in
abbrev pub invariant-loop-row : goal.invariant-loop-row
invariant-loop-row l = KeepsMore l.fn.kept (take l.row-index l.rows) l.kept
