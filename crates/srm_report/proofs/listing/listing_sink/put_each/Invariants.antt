use Rattle.std.proofs.Common.{◌≡◌, ◌++◌, IsTrue, take}
use Rattle.srm_report.specs.KeptLines.{parts_text}
use Rattle.srm_report.specs.Standings.{TakesBut}
use Rattle.srm_report.proofs.listing.listing_sink.put_each.Given as goal

-- of the text and the parts so far all was taken but the text now, which has all where nothing was written
abbrev pub invariant-loop-part : goal.invariant-loop-part
invariant-loop-part g l = record {
  failures : g.O.Outlet.failures l.outlet ≡ g.O.Outlet.failures l.fn.outlet;
  taken : TakesBut g.O.Outlet.taken l.fn.outlet l.fn.written (l.fn.text.items ++ parts_text (take l.part-index l.parts)) l.outlet l.written
      l.text.items;
  whole : IsTrue l.is_whole → l.text.items ≡ l.fn.text.items ++ parts_text (take l.part-index l.parts);
}
