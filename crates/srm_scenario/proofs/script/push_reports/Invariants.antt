use Rattle.std.proofs.Common.{◌≡◌, ◌++◌, drop}
use Rattle.srm_scenario.specs.Plain.{report_marks}
use Rattle.srm_scenario.proofs.script.push_reports.Given as goal

abbrev pub invariant-loop-i : goal.invariant-loop-i
invariant-loop-i l = l.marks.items ++ report_marks l.m l.i (drop l.i l.sessions) ≡ l.fn.marks.items ++ report_marks l.m 0 l.sessions
