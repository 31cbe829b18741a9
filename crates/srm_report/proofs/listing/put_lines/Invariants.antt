use Rattle.std.proofs.Common.{◌≡◌, ◌++◌, length}
use Rattle.srm_report.specs.Listings.{lines_in}
use Rattle.srm_report.proofs.listing.put_lines.Given as goal

-- the text and the lines of the other rows are all that is to be put
abbrev pub invariant-loop-rest : goal.invariant-loop-rest
invariant-loop-rest g l = l.text.items ++ lines_in g.L.Listing.form l.rest ≡ l.fn.text.items ++ lines_in g.L.Listing.form l.rows

abbrev pub decreases-loop-rest : goal.decreases-loop-rest
decreases-loop-rest g l = length l.rest
