use Rattle.std.proofs.Common.{◌≡◌, length, take}
use Rattle.srm_interfaces.specs.Watches.{KeepOn}
use Rattle.srm_interfaces.proofs.keeping.take_rows.Given as goal

-- the rows so far were taken in
abbrev pub invariant-loop-row : goal.invariant-loop-row
invariant-loop-row g l =
    (length l.kept ≡ length l.fn.kept) × KeepOn (g.W.Watch.keeps l.watch) l.fn.kept (take l.row-index l.rows) l.kept
