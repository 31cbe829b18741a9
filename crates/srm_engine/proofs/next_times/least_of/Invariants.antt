use Rattle.std.proofs.Common.{◌≡◌, drop}
use Rattle.srm_engine.specs.NextTimes.{least_of_times}
use Rattle.srm_engine.proofs.next_times.least_of.Given as goal

-- the least of this member's time and of those after it is found
abbrev pub invariant-loop-member : goal.invariant-loop-member
invariant-loop-member l = l.least ≡ least_of_times l.member (drop l.member l.times)
