use Rattle.std.proofs.Common.{◌≡◌, ℕ, ◌-◌, List, []}
use Rattle.srm_interfaces.specs.Watches.{MayLead}
use Rattle.srm_model.specs.World.{World}
use Rattle.srm_model.specs.WindowChains.{window_jobs}
use Rattle.srm_engine.specs.WindowEngines.{BeginsNext, OpensAt, ComesTo, frame_of, rule_by}
use Rattle.srm_engine.specs.WatchEngines.{IsWatching, KeepsRows}
use Rattle.srm_engine.proofs.watch_engine.WatchEngine.windows.Given as goal

-- what is kept keeps the rows of the windows so far, for which the crew was handed their jobs
abbrev pub invariant-loop-begin : goal.invariant-loop-begin
invariant-loop-begin g l = record {
  lead : MayLead g.C.WatchCrew.ready g.C.WatchCrew.serves l.crew l.fn.self.engine.session;
  stands : IsWatching g.M.Participant.plain l.ran;
  frame : frame_of l.ran.engine ≡ frame_of l.fn.self.engine;
  next : BeginsNext g.M.Participant.plain l.ran.engine l.begin;
  windows : (seed : ℕ) → OpensAt g.M.Participant.plain seed l.fn.self.engine → KeepsRows (g.W.Watch.keeps l.watch) l.fn.self []
      → (begins : List World) × (w : World) × ComesTo g.M.Participant.plain seed l.ran.engine begins w
      × KeepsRows (g.W.Watch.keeps l.watch) l.ran w.trace
      × g.C.WatchCrew.handed l.fn.crew (window_jobs (rule_by l.ran.engine seed) l.ran.engine.groups.cut begins) l.crew;
}

abbrev pub decreases-loop-begin : goal.decreases-loop-begin
decreases-loop-begin g l = l.until - l.begin
