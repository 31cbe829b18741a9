use Rattle.std.proofs.Common.{◌≡◌, ◌*◌, ◌≤◌, ◌++◌, drop}
use Rattle.srm_report.specs.Lines.{buffer_room, buffer_text, line_room}
use Rattle.srm_report.specs.Listings.{lines_in}
use Rattle.srm_report.proofs.listing.put_few.Given as goal

-- the lines of the rows from there on were put, and there is room for those of the others
abbrev pub invariant-loop-index : goal.invariant-loop-index
invariant-loop-index g l = record {
  room : l.index * line_room ≤ buffer_room l.buffer;
  text : buffer_text l.buffer ≡ lines_in g.L.Listing.form (drop l.index l.rows) ++ buffer_text l.fn.buffer;
}
