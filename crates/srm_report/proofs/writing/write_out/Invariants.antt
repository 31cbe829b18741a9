use Rattle.std.proofs.Common.{◌≡◌, ◌<◌, ◌≤◌, ◌-◌, ◌^◌, length, take}
use Rattle.std.specs.Io.KnownBytes.{Appends}
use Rattle.srm_report.proofs.writing.write_out.Given as goal

-- the front of the text was taken, and no call failed
abbrev pub invariant-loop-written : goal.invariant-loop-written
invariant-loop-written g l = record {
  within : l.written ≤ length l.text;
  unfailed : g.O.Outlet.failures l.outlet ≡ g.O.Outlet.failures l.initial.outlet;
  below : g.O.Outlet.failures l.initial.outlet < 2 ^ 64 - 1;
  taken : Appends (g.O.Outlet.taken l.initial.outlet) (g.O.Outlet.taken l.outlet) (take l.written l.text);
}

abbrev pub decreases-loop-written : goal.decreases-loop-written
decreases-loop-written g l = length l.text - l.written
