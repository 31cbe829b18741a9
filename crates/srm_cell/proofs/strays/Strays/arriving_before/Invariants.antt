use Rattle.std.proofs.Common.{◌≡◌, take}
use Rattle.srm_cell.specs.Flights.{arriving_before}
use Rattle.srm_cell.proofs.strays.Strays.arriving_before.Given as goal

-- those of the strays so far
abbrev pub invariant-loop-i : goal.invariant-loop-i
invariant-loop-i l = l.count ≡ arriving_before l.till (take l.i l.strays)
