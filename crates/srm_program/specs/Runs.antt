-- What a run is asked for, and what comes of it.
use Rattle.std.specs.Prelude.{◌≡◌, ℕ, ◌≤◌, List, ◌++◌, length, Option, Result, Ok, Err}
use Rattle.std.specs.Io.KnownBytes.{Appends}
use Rattle.std.specs.Global.{Vec}
use Rattle.srm_scenario.specs.Plain.{PlainScenario}
use Rattle.srm_cell.specs.Setting.{Setting, setting_of}
use Rattle.srm_member.specs.declared.row.Row.{Row}
use Rattle.srm_member.specs.declared.exit.Exit.{Exit}
use Rattle.srm_engine.specs.declared.fault.RunFault.{RunFault}
use Rattle.srm_engine.specs.declared.fault.RunFault.TheVariants as fault
use Rattle.srm_engine.specs.declared.stream_fault.StreamFault.{StreamFault}
use Rattle.srm_engine.specs.declared.stream_fault.StreamFault.TheVariants as stream
use Rattle.srm_interfaces.specs.declared.sink.SinkFault.TheVariants.{Stopped}
use Rattle.srm_interfaces.specs.declared.sink.Stage.{Stage}
use Rattle.srm_interfaces.specs.declared.sink.Stage.TheVariants.{Live, Refused}
use Rattle.srm_interfaces.specs.Sinks.{most_rows}
use Rattle.srm_engine.specs.Streams.{TakesTraceFront, TakesUpTo, MeetsFullWithin}
use Rattle.srm_model.specs.World.{World, IsReached, IsOutcome, RunMeetsFull}
use Rattle.srm_engine.specs.Windowed.{IsCut, MayBeWide, MayCome, PassesShareAtWindow, rule_of}
use Rattle.srm_engine.specs.WindowWatches.{TellsKept}
use Rattle.srm_program.specs.declared.fault.LabFault.{LabFault}
use Rattle.srm_program.specs.declared.fault.LabFault.TheVariants.{BadCut, BadWidth, ShareFull, NoMemory, CountFull}
use Rattle.srm_program.specs.declared.fault.LabFault.TheVariants.{WriteFault}
use Rattle.srm_options.specs.declared.options.Engine.{Engine}
use Rattle.srm_options.specs.declared.options.Engine.TheVariants.{Step, Window}
use Rattle.srm_options.specs.declared.options.Options.{Options}
use Rattle.srm_program.specs.Reports.{ByShow}
pub use Rattle.srm_options.specs.Asked.{MayShareBag}

-- the run may be cut into windows and jobs as is asked for
abbrev pub MayBeCut : PlainScenario → Options → Type 0
MayBeCut p o = IsCut o.cut × MayBeWide p o.width

-- the refusals that the engine brings: a cut and a width that may not be are refused by a run in windows, the cut
-- first, and by no other run; and only a run in windows is refused for a share
abbrev pub TellsRefusedFor : {T : Type 0} → PlainScenario → ℕ → Options → Result T LabFault → Type 0
TellsRefusedFor p seed o (Err BadCut) = (o.engine ≡ Window) × ¬ IsCut o.cut
TellsRefusedFor p seed o (Err BadWidth) = (o.engine ≡ Window) × IsCut o.cut × ¬ MayBeWide p o.width
TellsRefusedFor p seed o (Err ShareFull) =
    let s = setting_of p seed in
    (o.engine ≡ Window) × MayBeCut p o × PassesShareAtWindow s (rule_of s p o.width) o.cut
TellsRefusedFor p seed o r = o.engine ≡ Window → MayBeCut p o

-- in this world of a run this engine may break off for what is counted: one event after the other where the packet
-- count is used up for a step fewer than 32 rows later; and in windows where one begins that may be refused so
abbrev pub MayBreakOffBy : Engine → Setting → PlainScenario → Options → LabFault → World → Type 0
MayBreakOffBy Step s p o CountFull w = MeetsFullWithin most_rows s w
MayBreakOffBy Window s p o CountFull w = MayCome s (rule_of s p o.width) o.cut w fault.CountFull
MayBreakOffBy Window s p o ShareFull w = MayCome s (rule_of s p o.width) o.cut w fault.ShareFull
MayBreakOffBy engine s p o f w = ⊥

-- the same, of the run of a scenario with random words of this seed
abbrev pub MayBreakOff : PlainScenario → ℕ → Options → LabFault → World → Type 0
MayBreakOff p seed o f w = MayBreakOffBy o.engine (setting_of p seed) p o f w

-- up to how many bytes of a table that lists rows are gathered before they are written
abbrev pub most_gathered : ℕ
most_gathered = 8192

-- an outlet took the table that lists rows in this text, of those up to a world of which this holds, but for its last
-- bytes, no more than are gathered
abbrev pub TakesAllBut :
    (List Row → List ℕ) → (World → Type 0) → Setting → Option (List ℕ) → Option (List ℕ) → Type 0
TakesAllBut text holds s old new =
    (w : World) × IsReached s w × holds w
    × ((out rest : List ℕ) × (text w.trace ≡ out ++ rest) × (length rest ≤ most_gathered) × Appends old new out)

-- where a run breaks off for what is counted, the outlet took such a table up to a world in which that may be, but for
-- the last bytes
abbrev pub LeavesOff : {T : Type 0} → (List Row → List ℕ) → (LabFault → World → Type 0) → Setting
    → Option (List ℕ) → Option (List ℕ) → Result T LabFault → Type 0
LeavesOff text breaks s old new (Err CountFull) = TakesAllBut text (breaks CountFull) s old new
LeavesOff text breaks s old new (Err ShareFull) = TakesAllBut text (breaks ShareFull) s old new
LeavesOff text breaks s old new r = Unit {0}

-- so of the table that is shown of a run
abbrev pub BreaksOff : {T : Type 0} → PlainScenario → ℕ → Options
    → Option (List ℕ) → Option (List ℕ) → Result T LabFault → Type 0
BreaksOff p seed o old new r =
    ByShow o.show (λ text. LeavesOff text (MayBreakOff p seed o) (setting_of p seed) old new r) (Unit {0})

-- when a run is refused, and where a run that breaks off left the table that is shown
abbrev pub TellsRefusals : {T : Type 0} → PlainScenario → ℕ → Options
    → Option (List ℕ) → Option (List ℕ) → Result T LabFault → Type 0
TellsRefusals p seed o old new r = TellsRefusedFor p seed o r × BreaksOff p seed o old new r

-- ---- rows of which a watch keeps something

-- what a refusal of an engine is to the program
abbrev pub fault_of_run : RunFault → LabFault
fault_of_run fault.BadCut = BadCut
fault_of_run fault.BadWidth = BadWidth
fault_of_run fault.ShareFull = ShareFull
fault_of_run fault.NoMemory = NoMemory
fault_of_run fault.CountFull = CountFull

-- what an engine tells that keeps of rows what a watch keeps: of each member what is kept of its rows of the sequential
-- run, with that run's totals; or the refusal, of which CountFull says that the run meets a step for which the packet
-- count is used up, and none is of an outlet
abbrev pub KeepsRows : {K : Type 0} → (K → List Row → Type 0) → Setting → Result (Vec K × List ℕ) LabFault → Type 0
KeepsRows keeps s (Ok v) = TellsKept keeps s (Ok v)
KeepsRows keeps s (Err CountFull) = RunMeetsFull s
KeepsRows keeps s (Err (WriteFault written)) = ⊥
KeepsRows keeps s (Err f) = Unit {0}

-- ---- rows that are handed to a sink

-- what a refusal of an engine that hands rows to a sink is to the program
abbrev pub fault_of_stream : StreamFault → LabFault
fault_of_stream (stream.Run e) = fault_of_run e
fault_of_stream (stream.Stopped n) = WriteFault n

-- a sink stands as this answer says: it took all that it was handed, also where the run broke off for what is counted;
-- or its device failed and it told this number
abbrev pub StandsAfter : {T : Type 0} → Result T LabFault → Stage → Type 0
StandsAfter (Ok v) at = at ≡ Live
StandsAfter (Err CountFull) at = at ≡ Live
StandsAfter (Err ShareFull) at = at ≡ Live
StandsAfter (Err (WriteFault written)) at = at ≡ Refused (Stopped written)
StandsAfter (Err f) at = Unit {0}

module _ {S : Type 0} (took part : S → List Row → S → Type 0) where
  -- what an engine tells that hands its rows to a sink: the sink took the trace of the sequential run, and these are
  -- its totals; or the rows up to a world in which the engine may break off for what is counted; or else no more than a
  -- front of the trace, and nothing where the run was refused before any work
  abbrev pub HandsRows : (LabFault → World → Type 0) → Setting → S → Result (List ℕ) LabFault → S → Type 0
  HandsRows breaks s old (Ok totals) new =
      (rows : List Row) × (exits : List Exit) × IsOutcome s rows exits totals × took old rows new
  HandsRows breaks s old (Err CountFull) new = RunMeetsFull s × TakesUpTo took part s (breaks CountFull) old new
  HandsRows breaks s old (Err ShareFull) new = TakesUpTo took part s (breaks ShareFull) old new
  HandsRows breaks s old (Err BadCut) new = new ≡ old
  HandsRows breaks s old (Err BadWidth) new = new ≡ old
  HandsRows breaks s old (Err NoMemory) new = TakesTraceFront took part s old new
  HandsRows breaks s old (Err (WriteFault written)) new = TakesTraceFront took part s old new

  -- what the engine that is asked for hands on, and refuses
  abbrev pub TellsRows : PlainScenario → ℕ → Options → S → Result (List ℕ) LabFault → S → Type 0
  TellsRows p seed o old r new =
      HandsRows (MayBreakOff p seed o) (setting_of p seed) old r new × TellsRefusedFor p seed o r
