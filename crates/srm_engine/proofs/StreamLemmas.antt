-- What steps, and pieces of a run, tell.
use Rattle.std.proofs.Common.{◌≡◌, ◌∙◌, ◌⊎◌, inl, inr, ℕ, ◌<◌, ◌≤◌, ◌+◌, ◌^◌, List, [], ◌++◌, length, length-append, Err}
use Rattle.std.proofs.Common.{refl, sym, ap, subst, append-nil, arith, IsSome, IfSome}
use Rattle.srm_member.specs.declared.row.Row.{Row}
use Rattle.srm_cell.specs.Setting.{Setting, traffic_of}
use Rattle.srm_cell.specs.Crossings.{packets_of, crossings}
use Rattle.srm_cell.specs.Tallies.{tallied}
use Rattle.srm_cell.specs.Totalled.{numbers_of}
use Rattle.srm_cell.specs.Cells.{Done}
use Rattle.srm_cell.specs.Views.{HasWork}
use Rattle.srm_engine.specs.declared.halt.Halt.{Halt}
use Rattle.srm_engine.specs.declared.halt.Halt.TheVariants as halt
use Rattle.srm_engine.specs.declared.simulation.Simulation.{Simulation}
use Rattle.srm_engine.specs.declared.fault.RunFault.TheVariants as fault
use Rattle.srm_engine.specs.declared.stream_fault.StreamFault.{StreamFault}
use Rattle.srm_engine.specs.declared.stream_fault.StreamFault.TheVariants.{Run, Stopped}
use Rattle.srm_engine.specs.declared.fault.RunFault.{RunFault}
use Rattle.srm_interfaces.specs.declared.sink.SinkFault.TheVariants as sink
use Rattle.srm_interfaces.specs.declared.sink.Stage.{Stage}
use Rattle.srm_model.specs.World.{World, IsReached, step}
use Rattle.srm_scenario.specs.declared.session.Session.{Session}
use Rattle.srm_engine.specs.Starts.{setting_on}
use Rattle.srm_engine.specs.Engines.{MayRefuseStep, HasCounted}
use Rattle.srm_interfaces.specs.Sinks.{most_rows, stage_after, stops_in}
use Rattle.srm_engine.specs.Outcomes.{MayRefuseRun}
use Rattle.srm_engine.specs.Streams.{sink_in, stream_fault_of, run_fault_in, stopped_in, MayStop, MeetsRefusal, TakesTraceFront}
use Rattle.srm_engine.specs.Streams.{StandsAs, TellsHalt, MayLackSteps}
use Rattle.srm_engine.specs.RowRuns.{UndoneAfter}
use Rattle.srm_engine.proofs.Opened.{totals_are}
use Rattle.srm_engine.proofs.Stepping.{meets_full}

-- where a sink's failures are as many as before, it is told why the run gave no outcome
pub told_why : (A : Type 0) (n : ℕ) (x : StreamFault) → n ≡ n + stopped_in {A = A} (Err x) → IsSome (run_fault_in x)
told_why A n (Run e) h = refl
told_why A n (Stopped k) h = absurd (omega arith)

-- how a sink stands once steps were halted is what is told of it
pub halt_stands : (A B : Type 0) (x : Halt) (at : Stage) → at ≡ stage_after (sink_in {A = B} (Err x))
    → StandsAs {A = A} (Err (stream_fault_of x)) at
halt_stands A B (halt.Run fault.NoMemory) at e = tt
halt_stands A B (halt.Run fault.CountFull) at e = e
halt_stands A B (halt.Run fault.ShareFull) at e = e
halt_stands A B (halt.Run fault.BadCut) at e = tt
halt_stands A B (halt.Run fault.BadWidth) at e = tt
halt_stands A B (halt.Sink sink.NoMemory) at e = tt
halt_stands A B (halt.Sink (sink.Stopped n)) at e = e

-- so are the failures of its device
pub halt_stops : (A B : Type 0) (x : Halt)
    → stops_in (sink_in {A = B} (Err x)) ≡ stopped_in {A = A} (Err (stream_fault_of x))
halt_stops A B (halt.Run e) = refl
halt_stops A B (halt.Sink sink.NoMemory) = refl
halt_stops A B (halt.Sink (sink.Stopped n)) = refl

-- rows that a list in memory has after few others are few enough to be counted
pub countable : (before rows all : List Row) → all ≡ before ++ rows → length before ≤ 2 ^ 62 → length rows < 2 ^ 63
    → length all + 3 < 2 ^ 64
countable before rows all e few short = omega (arith, ap length e, length-append before rows)

-- a step that may be refused in a world that steps from an earlier one led to, or in that one
pub not_stepped : (most : ℕ) (s : Setting) (w v : World) (rows : List Row) (x : RunFault) → IsReached s v → v.trace ≡ w.trace ++ rows
    → length rows < most → (v ≡ w) ⊎ HasWork (step s w) → MayRefuseStep (step s v) x → MayStop most s w x
not_stepped most s w v rows fault.NoMemory r e few (inl is) h = inl (subst (λ (x : World). HasWork (step s x)) is h)
not_stepped most s w v rows fault.NoMemory r e few (inr work) h = inl work
not_stepped most s w v rows fault.CountFull r e few h5 h = (v, rows, r, e, few, h)
not_stepped most s w v rows fault.ShareFull r e few h5 h = absurd h
not_stepped most s w v rows fault.BadCut r e few h5 h = absurd h
not_stepped most s w v rows fault.BadWidth r e few h5 h = absurd h

-- where a step was taken, the first of them was
pub stepped_from : (s : Setting) (w v u : World) → step s v ≡ Done u → (v ≡ w) ⊎ HasWork (step s w) → HasWork (step s w)
stepped_from s w v u h (inl e) = subst (λ (x : World). HasWork (step s x)) e (subst HasWork (sym h) tt)
stepped_from s w v u h (inr work) = work

-- rows that a sink took are a front of themselves
pub front_taken : {S : Type 0} (took part : S → List Row → S → Type 0) → ((a : S) → part a [] a)
    → ((a b c : S) (xs ys : List Row) → took a xs b → part b ys c → part a (xs ++ ys) c)
    → (a b : S) (rows : List Row) → took a rows b → part a rows b
front_taken took part none more a b rows h =
    subst (λ (l : List Row). part a l b) (append-nil rows) (more a b b rows [] h (none b))

module _ {S : Type 0} (took part : S → List Row → S → Type 0) where
  -- where not all rows were handed on, a front was
  pub halted_front : ((a : S) → part a [] a) → ((a b c : S) (xs ys : List Row) → took a xs b → part b ys c → part a (xs ++ ys) c)
      → (may : World → RunFault → Type 0) (s : Setting) (old : S) (x : Halt) (new : S) → TellsHalt took part may s old x new
      → TakesTraceFront took part s old new
  halted_front none more may s old (halt.Run e) new h = (h.0, h.1, front_taken took part none more old new h.0.trace h.2)
  halted_front none more may s old (halt.Sink e) new h = h

  -- when a run that is not cut into windows, and hands its rows on, is refused
  pub halts_refuse : (s : Setting) (old : S) (x : Halt) (new : S) → TellsHalt took part (MayStop most_rows s) s old x new
      → MeetsRefusal took part s old (stream_fault_of x) new
  halts_refuse s old (halt.Run fault.NoMemory) new h = tt
  halts_refuse s old (halt.Run fault.CountFull) new h = h
  halts_refuse s old (halt.Run fault.ShareFull) new h = absurd h.3
  halts_refuse s old (halt.Run fault.BadCut) new h = absurd h.3
  halts_refuse s old (halt.Run fault.BadWidth) new h = absurd h.3
  halts_refuse s old (halt.Sink sink.NoMemory) new h = tt
  halts_refuse s old (halt.Sink (sink.Stopped n)) new h = tt

  -- why such a run is refused, whatever its sink took
  pub run_refused : (s : Setting) (old : S) (x : StreamFault) (new : S) → MeetsRefusal took part s old x new
      → IfSome (run_fault_in x) (MayRefuseRun s)
  run_refused s old (Run fault.NoMemory) new h = inl refl
  run_refused s old (Run fault.CountFull) new h = inr (refl, meets_full s h.3.0 h.3.2 h.3.5)
  run_refused s old (Run fault.ShareFull) new h = absurd h
  run_refused s old (Run fault.BadCut) new h = absurd h
  run_refused s old (Run fault.BadWidth) new h = absurd h
  run_refused s old (Stopped n) new h = tt

  -- where the sink is as it was, all is left undone
  pub uncalled : (stage : S → Stage) (may_lack : World → Type 0) (s : Setting) (old : S) (x : StreamFault)
      → UndoneAfter stage took part may_lack s old x old
  uncalled stage may_lack s old x e = inl refl

  -- what was left undone where such a run is refused memory
  pub steps_undone : (stage : S → Stage) (A : Type 0) (s : Setting) (old : S) (x : Halt) (new : S)
      → TellsHalt took part (MayStop most_rows s) s old x new → stage new ≡ stage_after (sink_in {A = A} (Err x))
      → UndoneAfter stage took part (MayLackSteps s) s old (stream_fault_of x) new
  steps_undone stage A s old (halt.Run fault.NoMemory) new h at e = inr (inl h)
  steps_undone stage A s old (halt.Run fault.CountFull) new h at e = cc
  steps_undone stage A s old (halt.Run fault.ShareFull) new h at e = absurd h.3
  steps_undone stage A s old (halt.Run fault.BadCut) new h at e = absurd h.3
  steps_undone stage A s old (halt.Run fault.BadWidth) new h at e = absurd h.3
  steps_undone stage A s old (halt.Sink sink.NoMemory) new h at e = inr (inr (at, h))
  steps_undone stage A s old (halt.Sink (sink.Stopped n)) new h at e = cc

-- what an engine counted that is seen as a world of a run
pub run_totals : {M : Type 0} (e : Simulation M) (at : Session) (seed : ℕ) (w : World) (totals : List ℕ)
    → e.session ≡ at → HasCounted e (packets_of w.trace) → totals ≡ tallied e.session.net.now e.tally
    → totals ≡ crossings (setting_on at seed).traffic w.trace
run_totals e at seed w totals same counted is =
    is ∙ counted.numbers ∙ ap (λ net. numbers_of (traffic_of e.session.scenario.now net) (packets_of w.trace)) e.session.network
    ∙ ap (λ at. numbers_of (setting_on at seed).traffic (packets_of w.trace)) same ∙ totals_are (setting_on at seed) w
