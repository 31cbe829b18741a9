use Rattle.std.proofs.Common.{◌<◌, ◌-◌, ◌^◌}
use Rattle.srm_interfaces.specs.Sinks.{IsOpen}
use Rattle.srm_report.specs.ListingSinks.{stage_of, outlet_under}
use Rattle.srm_engine_and_report_tests.proofs.trace_sink_tests.written.Given as goal

-- the sink took all that it was handed
abbrev pub invariant-loop-rows : goal.invariant-loop-rows
invariant-loop-rows g l = record { stands : IsOpen (stage_of l.sink); failures : g.O.Outlet.failures (outlet_under l.sink) < 2 ^ 64 - 1 }
