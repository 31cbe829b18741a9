use Rattle.std.proofs.Common.{◌≤◌, ◌*◌}
use Rattle.srm_engine_and_report_tests.proofs.outlet_tests.expect_failure_at.Given as goal

-- the outlet failed at most once in each call, and took at most three bytes
abbrev pub invariant-loop-call : goal.invariant-loop-call
invariant-loop-call g l = record { failed : l.outlet.failures ≤ l.call; short : l.taken ≤ 3 * l.call }
