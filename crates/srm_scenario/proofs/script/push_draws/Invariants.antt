use Rattle.std.proofs.Common.{◌≡◌, ◌++◌, drop}
use Rattle.srm_scenario.specs.Plain.{draw_marks}
use Rattle.srm_scenario.proofs.script.push_draws.Given as goal

abbrev pub invariant-loop-i : goal.invariant-loop-i
invariant-loop-i l = l.marks.items ++ draw_marks l.m l.i (drop l.i l.draws) ≡ l.fn.marks.items ++ draw_marks l.m 0 l.draws
