use Rattle.std.proofs.Common.{◌≡◌, drop, map}
use Rattle.srm_scenario.specs.Plain.{draw_marks}
use Rattle.srm_scenario.specs.ScriptLists.{with_each}
use Rattle.srm_scenario.proofs.scripts.add_draws.Given as goal

abbrev pub invariant-loop-i : goal.invariant-loop-i
invariant-loop-i l =
    with_each (λ m. draw_marks m l.i (drop l.i l.draws)) 0 (map (λ marks. marks.items) l.scripts)
    ≡ with_each (λ m. draw_marks m 0 l.draws) 0 (map (λ marks. marks.items) l.fn.scripts)
