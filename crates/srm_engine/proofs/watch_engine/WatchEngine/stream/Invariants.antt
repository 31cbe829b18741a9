use Rattle.std.proofs.Common.{◌≡◌, ℕ, ◌-◌, List, []}
use Rattle.srm_interfaces.specs.declared.sink.Stage.TheVariants.{Live}
use Rattle.srm_interfaces.specs.Watches.{MayLead}
use Rattle.srm_model.specs.World.{World}
use Rattle.srm_model.specs.WindowChains.{window_jobs}
use Rattle.srm_engine.specs.WindowEngines.{BeginsNext, OpensAt, ComesTo, frame_of, rule_by}
use Rattle.srm_engine.specs.WatchEngines.{IsWatching, KeepsRows}
use Rattle.srm_engine.proofs.watch_engine.WatchEngine.stream.Given as goal

-- the sink took the rows of the windows so far, for which the crew was handed their jobs, and what is kept now is of none
abbrev pub invariant-loop-begin : goal.invariant-loop-begin
invariant-loop-begin g l = record {
  lead : MayLead g.C.WatchCrew.ready g.C.WatchCrew.serves l.crew l.fn.self.engine.session;
  same : g.C.WatchCrew.same l.fn.crew l.crew;
  stands : IsWatching g.M.Participant.plain l.ran;
  none : KeepsRows (g.W.Watch.keeps l.watch) l.ran [];
  frame : frame_of l.ran.engine ≡ frame_of l.fn.self.engine;
  next : BeginsNext g.M.Participant.plain l.ran.engine l.begin;
  device : g.S.RowSink.same l.fn.sink l.sink;
  live : g.S.RowSink.stage l.sink ≡ Live;
  unfailed : g.S.RowSink.failures l.sink ≡ g.S.RowSink.failures l.fn.sink;
  windows : (seed : ℕ) → OpensAt g.M.Participant.plain seed l.fn.self.engine
      → (begins : List World) × (w : World) × ComesTo g.M.Participant.plain seed l.ran.engine begins w
      × g.S.RowSink.took l.fn.sink w.trace l.sink
      × g.C.WatchCrew.handed l.fn.crew (window_jobs (rule_by l.ran.engine seed) l.ran.engine.groups.cut begins) l.crew;
}

abbrev pub decreases-loop-begin : goal.decreases-loop-begin
decreases-loop-begin g l = l.until - l.begin
