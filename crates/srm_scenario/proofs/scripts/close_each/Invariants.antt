use Rattle.std.proofs.Common.{◌≡◌, ◌++◌, drop, take, map}
use Rattle.srm_scenario.specs.ScriptLists.{closed}
use Rattle.srm_scenario.proofs.scripts.close_each.Given as goal

-- the lists so far are closed, and the others are as they were
abbrev pub invariant-loop-m : goal.invariant-loop-m
invariant-loop-m l =
    take l.m (map (λ marks. marks.items) l.scripts) ++ closed (drop l.m l.members) (drop l.m (map (λ marks. marks.items) l.scripts))
    ≡ closed l.members (map (λ marks. marks.items) l.fn.scripts)
