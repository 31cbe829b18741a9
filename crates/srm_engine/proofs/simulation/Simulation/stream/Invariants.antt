use Rattle.std.proofs.Common.{◌≡◌, ◌+◌, ◌*◌, ◌^◌, ℕ, length}
use Rattle.srm_interfaces.specs.declared.sink.Stage.TheVariants.{Live}
use Rattle.srm_model.specs.World.{World, IsReached}
use Rattle.srm_engine.specs.Engines.{IsOpened, Shows, setting_in}
use Rattle.srm_engine.proofs.simulation.Simulation.stream.Given as goal

-- the sink took the rows up to the world in which the engine is, and there is room for more
abbrev pub invariant-loop-left : goal.invariant-loop-left
invariant-loop-left g l = record {
  same : (l.self.session ≡ l.fn.self.session);
  device : g.S.RowSink.same l.fn.sink l.sink;
  live : g.S.RowSink.stage l.sink ≡ Live;
  unfailed : g.S.RowSink.failures l.sink ≡ g.S.RowSink.failures l.fn.sink;
  rows : (seed : ℕ) → IsOpened g.M.Participant.plain seed l.fn.self
      → (w : World) × IsReached (setting_in l.fn.self seed) w × g.S.RowSink.took l.fn.sink w.trace l.sink
      × Shows g.M.Participant.plain l.self w × (length w.trace + 32 * l.left ≡ 2 ^ 62);
}

abbrev pub decreases-loop-left : goal.decreases-loop-left
decreases-loop-left g l = l.left
