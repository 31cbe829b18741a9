use Rattle.std.proofs.Common.{◌≡◌, ◌-◌, ◌^◌, min, take}
use Rattle.srm_cell.specs.Flights.{arriving_before}
use Rattle.srm_cell.specs.Lines.{in_blocks}
use Rattle.srm_cell.proofs.blocks.count_in.Given as goal

-- those of the blocks so far
abbrev pub invariant-loop-i : goal.invariant-loop-i
invariant-loop-i l = l.count ≡ min (arriving_before l.till (in_blocks (take l.i l.blocks.items))) (2 ^ 64 - 1)
