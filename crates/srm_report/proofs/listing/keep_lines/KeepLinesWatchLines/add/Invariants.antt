use Rattle.std.proofs.Common.{◌≡◌, ◌++◌, List, take}
use Rattle.srm_member.specs.declared.row.Row.{Row}
use Rattle.srm_report.specs.KeptLines.{lines_of}
use Rattle.srm_report.proofs.listing.keep_lines.KeepLinesWatchLines.add.Given as goal

-- the lines of the rows so far are kept, after those before
abbrev pub invariant-loop-row : goal.invariant-loop-row
invariant-loop-row g l = (before : List Row) → l.fn.kept ≡ lines_of g.L.Listing.form before
    → l.kept ≡ lines_of g.L.Listing.form (before ++ take l.row-index l.rows)
