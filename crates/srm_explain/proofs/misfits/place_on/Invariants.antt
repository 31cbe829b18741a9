use Rattle.std.proofs.Common.{◌≡◌, drop}
use Rattle.srm_scenario.specs.Faults.{is_taken}
use Rattle.srm_explain.proofs.misfits.place_on.Given as goal

-- what was passed is not on the node
abbrev pub invariant-loop-place : goal.invariant-loop-place
invariant-loop-place l = is_taken (drop l.place l.members) l.node ≡ is_taken l.members l.node
