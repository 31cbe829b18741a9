use Rattle.std.proofs.Common.{◌≡◌, [], All, length, take}
use Rattle.srm_report.proofs.listing.keep_lines.clear_all.Given as goal

-- the lines of the members so far are taken out
abbrev pub invariant-loop-own : goal.invariant-loop-own
invariant-loop-own l = (length l.kept ≡ length l.fn.kept) × All (λ own. own ≡ []) (take l.own-index l.kept)
