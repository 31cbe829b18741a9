use Rattle.std.proofs.Common.{◌≡◌, ◌++◌, take}
use Rattle.srm_report.specs.KeptLines.{parts_seen}
use Rattle.srm_report.proofs.listing.lines.Lines.put_parts.Given as goal

-- the parts so far were put behind the others
abbrev pub invariant-loop-index : goal.invariant-loop-index
invariant-loop-index l = parts_seen l.parts.items ≡ parts_seen l.fn.parts.items ++ take l.index l.self
