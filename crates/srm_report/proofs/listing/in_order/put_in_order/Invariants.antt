use Rattle.std.proofs.Common.{◌≡◌, take}
use Rattle.srm_cell.specs.Crossings.{joined}
use Rattle.srm_interfaces.specs.Grouped.{all_in}
use Rattle.srm_report.specs.KeptLines.{parts_seen}
use Rattle.srm_report.proofs.listing.in_order.put_in_order.Given as goal

-- the parts of the groups so far
abbrev pub invariant-loop-group : goal.invariant-loop-group
invariant-loop-group l = parts_seen l.parts.items ≡ joined (all_in (take l.group-index l.groups))
