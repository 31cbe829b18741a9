use Rattle.std.proofs.Common.{◌≡◌, ◌+◌, map, sum_by, take}
use Rattle.toml.specs.View.{view}
use Rattle.srm_scenario.specs.Rules.{times_repeated}
use Rattle.srm_explain.proofs.copies.copied_at.Given as goal

-- the elements that were passed stand for so many, and so many are left
abbrev pub invariant-loop-written : goal.invariant-loop-written
invariant-loop-written l = l.place ≡ sum_by times_repeated (take l.written (map view l.values)) + l.left
