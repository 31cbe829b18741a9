use Rattle.std.proofs.Common.{◌≡◌, drop, map}
use Rattle.srm_scenario.specs.Plain.{report_marks}
use Rattle.srm_scenario.specs.ScriptLists.{with_each}
use Rattle.srm_scenario.proofs.scripts.add_reports.Given as goal

abbrev pub invariant-loop-i : goal.invariant-loop-i
invariant-loop-i l =
    with_each (λ m. report_marks m l.i (drop l.i l.sessions)) 0 (map (λ marks. marks.items) l.scripts)
    ≡ with_each (λ m. report_marks m 0 l.sessions) 0 (map (λ marks. marks.items) l.fn.scripts)
