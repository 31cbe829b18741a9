use Rattle.std.proofs.Common.{◌≡◌, ℕ, take}
use Rattle.srm_report.specs.KeptLines.{parts_seen, text_at}
use Rattle.srm_report.proofs.listing.in_order.lines_of.Given as goal

-- at each tick the lines have the text of the parts so far
abbrev pub invariant-loop-part : goal.invariant-loop-part
invariant-loop-part l = (t : ℕ) → text_at t l.lines ≡ text_at t (parts_seen (take l.part-index l.parts))
