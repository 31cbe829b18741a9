use Rattle.std.proofs.Common.{◌≡◌, ◌+◌, drop, map, sum_by}
use Rattle.toml.specs.View.{view}
use Rattle.srm_scenario.specs.Rules.{times_repeated}
use Rattle.srm_explain.proofs.arrays.made_by.Given as goal

-- for how many those stand that were passed, and those that are still to come
abbrev pub invariant-loop-value : goal.invariant-loop-value
invariant-loop-value l =
    l.made + sum_by times_repeated (map view (drop l.value-index l.values)) ≡ sum_by times_repeated (map view l.values)
