use Rattle.std.proofs.Common.{◌≡◌, ◌++◌, take}
use Rattle.srm_cell.specs.Crossings.{joined}
use Rattle.srm_report.specs.KeptLines.{parts_seen}
use Rattle.srm_report.proofs.listing.in_order.add_parts.Given as goal

-- the parts of the members so far were put behind the others
abbrev pub invariant-loop-own : goal.invariant-loop-own
invariant-loop-own l = parts_seen l.parts.items ≡ parts_seen l.fn.parts.items ++ joined (take l.own-index l.all)
