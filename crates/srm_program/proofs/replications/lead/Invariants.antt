use Rattle.std.proofs.Common.{◌≡◌, ◌<◌, ◌≤◌, ◌-◌, ◌^◌, List, length}
use Rattle.std.specs.List.{range_with_len}
use Rattle.srm_scenario.specs.Plain.{PlainScenario}
use Rattle.srm_model.specs.World.{World}
use Rattle.srm_program.specs.Replications.{series_of, MakesEach}
use Rattle.srm_program.proofs.ReplicationLemmas.{HasRuns}
use Rattle.srm_program.proofs.replications.lead.Given as goal

-- the runs before this seed were written, and those from it on are under way
abbrev pub invariant-loop-seed : goal.invariant-loop-seed
invariant-loop-seed g l = record {
  from : l.span.first ≤ l.seed;
  ahead : l.seed ≤ l.next;
  within : l.next ≤ l.span.end;
  to : l.seed-end ≡ l.span.end;
  work : l.relay.work ≡ l.fn.relay.work;
  under_way : l.relay.under_way ≡ range_with_len l.seed (l.next - l.seed);
  unfailed : g.O.Outlet.failures l.outlet ≡ g.O.Outlet.failures l.fn.outlet;
  below : g.O.Outlet.failures l.fn.outlet < 2 ^ 64 - 1;
  runs : (p : PlainScenario) → MakesEach (g.W.Work.gives l.fn.relay.work) p l.span.show
      → (ws : List World) × (length ws ≡ l.seed - l.span.first)
      × HasRuns (series_of p l.span) ws (g.O.Outlet.taken l.fn.outlet) (g.O.Outlet.taken l.outlet) l.written;
}
