-- Runs that hand their rows on as they come, and what they tell.
use Rattle.std.specs.Prelude.{◌≡◌, ◌⊎◌, ◌+◌, ◌<◌, ◌≤◌, ◌^◌, ℕ, List, ◌++◌, length, Option, Some, None, Result, Ok, Err}
use Rattle.std.specs.Prelude.{MatchResult, IfErr}
use Rattle.std.specs.Global.{Vec}
use Rattle.srm_member.specs.declared.row.Row.{Row}
use Rattle.srm_member.specs.declared.exit.Exit.{Exit}
use Rattle.srm_member.specs.Record.{Record}
use Rattle.srm_cell.specs.Setting.{Setting}
use Rattle.srm_cell.specs.Cells.{Idle, Full}
use Rattle.srm_cell.specs.Views.{HasWork}
use Rattle.srm_engine.specs.declared.simulation.Simulation.{Simulation}
use Rattle.srm_engine.specs.declared.fault.RunFault.{RunFault}
use Rattle.srm_engine.specs.declared.fault.RunFault.TheVariants as fault
use Rattle.srm_engine.specs.declared.halt.Halt.{Halt}
use Rattle.srm_engine.specs.declared.halt.Halt.TheVariants as halt
use Rattle.srm_interfaces.specs.declared.sink.RowSink as row_sink
use Rattle.srm_interfaces.specs.declared.sink.SinkFault.{SinkFault}
use Rattle.srm_interfaces.specs.declared.sink.SinkFault.TheVariants as sink
use Rattle.srm_interfaces.specs.declared.sink.Stage.{Stage}
use Rattle.srm_interfaces.specs.declared.sink.Stage.TheVariants.{Live, Refused}
use Rattle.srm_engine.specs.declared.stream_fault.StreamFault.{StreamFault}
use Rattle.srm_engine.specs.declared.stream_fault.StreamFault.TheVariants.{Run, Stopped}
use Rattle.srm_interfaces.specs.Sinks.{most_rows}
use Rattle.srm_model.specs.World.{World, IsReached, IsLast, IsOutcome, step}
use Rattle.srm_engine.specs.Engines.{Shows, IsOpened, setting_in}

-- ---- refusals

-- what a sink answered last in a run that ends so
abbrev pub sink_in : {A : Type 0} → Result A Halt → Result (Unit {0}) SinkFault
sink_in (Ok v) = Ok tt
sink_in (Err (halt.Run e)) = Ok tt
sink_in (Err (halt.Sink e)) = Err e

-- what a halt is to those who asked for the run
abbrev pub stream_fault_of : Halt → StreamFault
stream_fault_of (halt.Run e) = Run e
stream_fault_of (halt.Sink sink.NoMemory) = Run fault.NoMemory
stream_fault_of (halt.Sink (sink.Stopped n)) = Stopped n

-- why the run gave no outcome, unless it is that the device under the sink failed
abbrev pub run_fault_in : StreamFault → Option RunFault
run_fault_in (Run e) = Some e
run_fault_in (Stopped n) = None

-- how many failures of a sink's device this answer tells
abbrev pub stopped_in : {A : Type 0} → Result A StreamFault → ℕ
stopped_in (Ok v) = 0
stopped_in (Err (Run e)) = 0
stopped_in (Err (Stopped n)) = 1

-- how a sink stands after this answer: it took all that it was handed, also where the run met what cannot be counted;
-- or its device failed and it told this number. After other refusals it may stand either way
abbrev pub StandsAs : {A : Type 0} → Result A StreamFault → Stage → Type 0
StandsAs (Ok v) at = at ≡ Live
StandsAs (Err (Run fault.CountFull)) at = at ≡ Live
StandsAs (Err (Run fault.ShareFull)) at = at ≡ Live
StandsAs (Err (Run e)) at = Unit {0}
StandsAs (Err (Stopped n)) at = at ≡ Refused (sink.Stopped n)

-- how a run left the sink that took its rows: over the same device, where it stands, how often the device failed
pub record LeavesSink {S A : Type 0} (s : row_sink.Ghosts S) (old : S) (r : Result A StreamFault) (new : S)
    : Type 0 where
  pub device : s.same old new
  pub stands : StandsAs r (s.stage new)
  pub failures : s.failures new ≡ s.failures old + stopped_in r

-- ---- rows

-- the run meets a step for which the packet count is used up, fewer than so many rows after this world
abbrev pub MeetsFullWithin : ℕ → Setting → World → Type 0
MeetsFullWithin most s w =
    (v : World) × (rows : List Row) × IsReached s v × (v.trace ≡ w.trace ++ rows) × (length rows < most)
    × (step s v ≡ Full)

-- memory may be refused to the steps from a world of a run on: there is one to take, or there are 2^62 rows or more
abbrev pub MayLackSteps : Setting → World → Type 0
MayLackSteps s w = HasWork (step s w) ⊎ (2 ^ 62 ≤ length w.trace)

-- when up to so many steps from a world of a run on may be refused: for memory; and where the packet count is used up
-- for one of them
abbrev pub MayStop : ℕ → Setting → World → RunFault → Type 0
MayStop most s w fault.NoMemory = MayLackSteps s w
MayStop most s w fault.CountFull = MeetsFullWithin most s w
MayStop most s w e = ⊥

module _ {S : Type 0} (took part : S → List Row → S → Type 0) where
  -- the sink took no more than a front of the rows of the sequential run
  abbrev pub TakesTraceFront : Setting → S → S → Type 0
  TakesTraceFront s old new = (w : World) × IsReached s w × part old w.trace new

  -- the sink took the rows of the sequential run up to a world of which this holds
  abbrev pub TakesUpTo : Setting → (World → Type 0) → S → S → Type 0
  TakesUpTo s holds old new = (w : World) × IsReached s w × took old w.trace new × holds w

  -- why the rows of a run were not all handed on: it was refused at a world in which it may be, and the sink took the
  -- rows so far; or the sink refused some, and took no more than a front of the trace
  abbrev pub TellsHalt : (World → RunFault → Type 0) → Setting → S → Halt → S → Type 0
  TellsHalt may s old (halt.Run e) new = TakesUpTo s (λ w. may w e) old new
  TellsHalt may s old (halt.Sink e) new = TakesTraceFront s old new

  -- what a run that hands its rows to a sink tells: the exits and crossings of the sequential run, of which the sink
  -- took exactly the trace; or the sink took no more than a front of it
  abbrev pub TellsStream : Setting → S → Result (Vec Exit × List ℕ) StreamFault → S → Type 0
  TellsStream s old (Ok v) new = (rows : List Row) × IsOutcome s rows v.0.items v.1 × took old rows new
  TellsStream s old (Err e) new = TakesTraceFront s old new

  -- when a run that is not cut into windows is refused: for memory, or as its sink was; and where the packet count is
  -- used up less than a piece after the rows that the sink took
  abbrev pub MeetsRefusal : Setting → S → StreamFault → S → Type 0
  MeetsRefusal s old (Run fault.NoMemory) new = Unit {0}
  MeetsRefusal s old (Run fault.CountFull) new = TakesUpTo s (MeetsFullWithin most_rows s) old new
  MeetsRefusal s old (Run e) new = ⊥
  MeetsRefusal s old (Stopped n) new = Unit {0}

  -- so where it is refused
  abbrev pub TellsRefusal : {A : Type 0} → Setting → S → Result A StreamFault → S → Type 0
  TellsRefusal s old r new = IfErr r (λ x. MeetsRefusal s old x new)

-- ---- pieces

module _ {M : Type 0} where
  -- the engine is seen as a world of a run with few rows
  abbrev pub MayTake : (M → Record) → Simulation M → Type 0
  MayTake f e = (seed : ℕ) × (w : World) × IsReached (setting_in e seed) w × Shows f e w × (length w.trace ≤ 2 ^ 62)

  -- what steps from a world on tell, up to so many: the rows up to a later world, the last of the run where there are
  -- fewer; or why they are refused
  abbrev pub TellsSteps : (M → Record) → Setting → ℕ → World → Result (Vec Row) RunFault
      → Simulation M → Type 0
  TellsSteps f s most w r after =
      MatchResult r (λ rows. (v : World) × IsReached s v × (v.trace ≡ w.trace ++ rows.items) × Shows f after v
      × (length rows.items < most → step s v ≡ Idle))
      (MayStop most s w)

  -- so of whatever world of a run the engine is seen as, with every seed
  abbrev pub TakesSteps : (M → Record) → ℕ → Simulation M → Result (Vec Row) RunFault → Simulation M
      → Type 0
  TakesSteps f most old r new =
      (seed : ℕ) (w : World) → IsReached (setting_in old seed) w → Shows f old w
      → TellsSteps f (setting_in old seed) most w r new

  module _ {S : Type 0} (took part : S → List Row → S → Type 0) where
    -- what the steps of a run tell, the rows of which are handed to a sink: the last world of the sequential run, of
    -- which the sink took the trace; or why not all were handed on
    abbrev pub StepsToEnd : {A : Type 0} → (M → Record) → Setting → S → Result A Halt → S
        → Simulation M → Type 0
    StepsToEnd f s old r new after =
        MatchResult r (λ _. (w : World) × IsLast s w × took old w.trace new × Shows f after w)
        (λ x. TellsHalt took part (MayStop most_rows s) s old x new)

    -- so of an engine that is opened, with every seed
    abbrev pub StreamsRows : {A : Type 0} → (M → Record) → Simulation M → S → Result A Halt
        → S → Simulation M → Type 0
    StreamsRows f e old r new after =
        (seed : ℕ) → IsOpened f seed e → StepsToEnd f (setting_in e seed) old r new after
