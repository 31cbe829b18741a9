use Rattle.std.proofs.Common.{take}
use Rattle.srm_report.specs.KeptScopes.{KeepsScopes}
use Rattle.srm_report.proofs.scopes.scopes_of.Given as goal

-- the rows so far were taken in
abbrev pub invariant-loop-row : goal.invariant-loop-row
invariant-loop-row l = KeepsScopes (take l.row-index l.rows) l.all
