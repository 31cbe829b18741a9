use Rattle.std.proofs.Common.{◌≡◌, ◌++◌, take, vec_capacity}
use Rattle.srm_crew.proofs.bag.append.Given as goal

abbrev pub invariant-loop-i : goal.invariant-loop-i
invariant-loop-i l = (l.to.items ≡ l.initial.to.items ++ take l.i l.more.items) × (vec_capacity l.to ≡ vec_capacity l.initial.to)
