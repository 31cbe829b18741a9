-- What is asked of a run, and what comes of it.
use Rattle.std.specs.Prelude.{◌≡◌, ◌<◌, ◌-◌, ◌^◌, ℕ, List, [], Result}
use Rattle.std.specs.Global.{Vec}
use Rattle.srm_scenario.specs.Plain.{PlainScenario}
use Rattle.srm_member.specs.Record.{Record}
use Rattle.srm_member.specs.declared.row.Row.{Row}
use Rattle.srm_cell.specs.Setting.{setting_of}
use Rattle.srm_interfaces.specs.declared.sink.RowSink as sink
use Rattle.srm_report.specs.declared.outlet.Outlet as outlet
use Rattle.srm_options.specs.declared.options.Show.{Show}
use Rattle.srm_options.specs.declared.options.Engine.TheVariants.{Step, Window}
use Rattle.srm_report.specs.Listings.{Form, text_in}
use Rattle.srm_report.specs.declared.listing.listing_sink.ListingSink.{ListingSink}
use Rattle.srm_report.specs.ListingSinks.{stage_of, gathered_by, gathering_room, written_by}
use Rattle.srm_interfaces.specs.declared.sink.Stage.TheVariants.{Fresh}
use Rattle.srm_engine.specs.Openings.{HoldOpeningRecords}
use Rattle.srm_program.specs.declared.task.Task.{Task}
use Rattle.srm_program.specs.declared.fault.LabFault.{LabFault}
use Rattle.srm_program.specs.Reports.{failures_after_run, TellsListing, TellsReport}
use Rattle.srm_program.specs.Runs.{most_gathered, KeepsRows, LeavesOff, MayBreakOff, StandsAfter, TellsRefusals}
use Rattle.srm_program.specs.Runs.{TellsRefusedFor, TellsRows}

-- this holds of a task's scenario, for each seed whose opening records these are
abbrev pub ForEachSeed : Task → List Record → (PlainScenario → ℕ → Type 0) → Type 0
ForEachSeed task rs holds =
    (seed : ℕ) → HoldOpeningRecords task.session.scenario.now seed rs
    → holds task.session.scenario.now seed

-- a table of a run of one event after the other may be written: it is asked for, and one more failure of the outlet can
-- be counted
pub record MayStep {O : Type 0} (o : outlet.Ghosts O) (task : Task) (to : O) : Type 0 where
  pub engine : task.options.engine ≡ Step
  pub count : o.failures to < 2 ^ 64 - 1

-- a table may be made of what a watch keeps: it is asked for, of a run in windows, and one more failure of the outlet
-- can be counted
pub record MayTabulate {O : Type 0} (o : outlet.Ghosts O) (table : Show) (task : Task) (to : O) : Type 0 where
  pub engine : task.options.engine ≡ Window
  pub shown : task.options.show ≡ table
  pub count : o.failures to < 2 ^ 64 - 1

-- what comes of a task, of members with these records, whose rows are handed to a sink: how it stands, and what it took
pub record HandsOn {S : Type 0} (s : sink.Ghosts S) (task : Task) (rs : List Record) (old : S)
    (r : Result (List ℕ) LabFault) (new : S) : Type 0 where
  pub device : s.same old new
  pub stands : StandsAfter r (s.stage new)
  pub failures : s.failures new ≡ failures_after_run r (s.failures old)
  pub rows : ForEachSeed task rs (λ p seed. TellsRows s.took s.part p seed task.options old r new)

-- what comes of a task, of members with these records, of whose rows a watch keeps something: what is kept of each
-- member and the totals, or the refusal
pub record IsKept {K : Type 0} (keeps : K → List Row → Type 0) (task : Task) (rs : List Record)
    (r : Result (Vec K × List ℕ) LabFault) : Type 0 where
  pub kept : ForEachSeed task rs (λ p seed. KeepsRows keeps (setting_of p seed) r)
  pub refused : ForEachSeed task rs (λ p seed. TellsRefusedFor p seed task.options r)

-- a sink was handed nothing yet, and gathers as much as one of the program's does
pub record IsFresh {L O : Type 0} (s : ListingSink L O) : Type 0 where
  pub stage : stage_of s ≡ Fresh
  pub gathered : gathered_by s ≡ []
  pub room : gathering_room s ≡ most_gathered
  pub written : written_by s ≡ 0

module _ {O T : Type 0} (o : outlet.Ghosts O) where
  -- what comes of a table that lists rows: how often its outlet failed, what it took, the refusals, and where a run
  -- that broke off left it
  pub record IsListed (form : Form) (task : Task) (rs : List Record) (old : O) (r : Result T LabFault) (new : O)
      : Type 0 where
    pub failures : o.failures new ≡ failures_after_run r (o.failures old)
    pub table : ForEachSeed task rs (λ p seed. TellsListing (text_in form) (setting_of p seed)
        (o.taken old) (o.taken new) r)
    pub refused : ForEachSeed task rs (λ p seed. TellsRefusedFor p seed task.options r)
    pub left : ForEachSeed task rs (λ p seed. LeavesOff (text_in form) (MayBreakOff p seed task.options)
        (setting_of p seed) (o.taken old) (o.taken new) r)

  -- what comes of a report: how often its outlet failed, what it took, and the refusals
  pub record Reports (task : Task) (rs : List Record) (old : O) (r : Result T LabFault) (new : O) : Type 0 where
    pub failures : o.failures new ≡ failures_after_run r (o.failures old)
    pub report : ForEachSeed task rs (λ p seed. TellsReport p seed task.options.show
        (o.taken old) (o.taken new) r)
    pub refusals : ForEachSeed task rs (λ p seed. TellsRefusals p seed task.options
        (o.taken old) (o.taken new) r)
