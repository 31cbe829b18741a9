use Rattle.std.proofs.Common.{◌≡◌, ◌++◌, take}
use Rattle.srm_engine.proofs.keep_rows.KeepRowsWatchVecRow.add.Given as goal

-- the rows so far are kept, after those before
abbrev pub invariant-loop-row : goal.invariant-loop-row
invariant-loop-row l = l.kept.items ≡ l.fn.kept.items ++ take l.row-index l.rows
