-- What the windowed engine is given, and what it tells.
use Rattle.std.specs.Prelude.{◌≡◌, ◌<◌, ◌+◌, ◌^◌, ℕ, List, slice_index, Result, Err}
use Rattle.srm_scenario.specs.Plain.{PlainScenario}
use Rattle.srm_member.specs.declared.row.Row.{Row}
use Rattle.srm_ledger.specs.Seats.{LedgerView, SeatView}
use Rattle.srm_ledger.specs.Weights.{whole_weight}
use Rattle.srm_cell.specs.Setting.{Traffic, Setting}
use Rattle.srm_cell.specs.Cells.{Event, Full}
use Rattle.srm_cell.specs.Crossings.{crossings}
use Rattle.srm_cell.specs.Jobs as cell
use Rattle.srm_interfaces.specs.Crews.{counted_in, AreRowsOfSome, AnyEnds}
use Rattle.srm_options.specs.declared.width.Width.{Width}
use Rattle.srm_options.specs.declared.width.Width.TheVariants as width
use Rattle.srm_engine.specs.declared.width.Windows.{Windows}
use Rattle.srm_engine.specs.declared.fault.RunFault.{RunFault}
use Rattle.srm_engine.specs.declared.fault.RunFault.TheVariants as fault
use Rattle.srm_engine.specs.declared.outcome.Outcome.{Outcome}
use Rattle.srm_model.specs.World.{World, IsLast, RunMeetsFull}
use Rattle.srm_model.specs.Windows.{IsWidth, promise_end}
use Rattle.srm_model.specs.WindowRuns.{jobs_of}
use Rattle.srm_model.specs.WindowChains.{AreWindows, IsNext, width_rule, least_width, window_jobs}
pub use Rattle.srm_engine.specs.Groups.{IsCut}

-- ---- what is given

-- windows may be so wide in runs of this scenario
abbrev pub MayBeWide : PlainScenario → Width → Type 0
MayBeWide p (width.Ticks n) = (0 < n) × IsWidth p n
MayBeWide p width.Least = Unit {0}
MayBeWide p width.Promise = Unit {0}

-- where the windows of a run end
abbrev pub rule_of : Setting → PlainScenario → Width → World → ℕ
rule_of s p (width.Ticks n) = width_rule s n
rule_of s p width.Least = width_rule s (least_width p)
rule_of s p width.Promise = promise_end s

-- ---- what is counted

-- the crossings of a trace, with those of the rows of some of the jobs, are more than 2^47 at some place
abbrev pub PassesShare : Traffic → List Row → List cell.PlainJob → Type 0
PassesShare t trace js =
    (rows : List Row) × AreRowsOfSome js rows
    × (k : ℕ) × (2 ^ 47 < counted_in (crossings t trace) k + counted_in (crossings t rows) k)

-- so at one of a run's windows, of the trace up to it and its jobs
abbrev pub PassesShareAtWindow : Setting → (World → ℕ) → ℕ → Type 0
PassesShareAtWindow s rule cut =
    (w : World) × (begins : List World) × AreWindows s rule begins w
    × PassesShare s.traffic w.trace (jobs_of cut (rule w) w)

-- the seat is the whole one of this ledger, and its shares are the crossings of these rows
pub record IsCounted (t : Traffic) (l : LedgerView) (rows : List Row) (seat : SeatView) : Type 0 where
  pub ledger : seat.ledger ≡ l.name
  pub weight : seat.weight ≡ whole_weight
  pub shares : (k : ℕ) → slice_index seat.shares k ≡ counted_in (crossings t rows) k

-- ---- refusals

-- when the window that begins in a world of a run, and ends so, may be refused: for memory only where something is
-- pending; where one of its jobs, and so the run, meets a step for which the packet count is used up; and where the
-- crossings up to it, with those of some of its jobs, are too many for a share
abbrev pub MayRefuseWindow : Setting → ℕ → ℕ → World → RunFault → Type 0
MayRefuseWindow s till cut w fault.NoMemory = (e : Event) × IsNext s w e
MayRefuseWindow s till cut w fault.CountFull = RunMeetsFull s × AnyEnds Full (jobs_of cut till w)
MayRefuseWindow s till cut w fault.ShareFull = PassesShare s.traffic w.trace (jobs_of cut till w)
MayRefuseWindow s till cut w e = ⊥

-- windows come to this world, and the next may be refused so
abbrev pub MayCome : Setting → (World → ℕ) → ℕ → World → RunFault → Type 0
MayCome s rule cut w e = (begins : List World) × AreWindows s rule begins w × MayRefuseWindow s (rule w) cut w e

-- when a run in windows may be refused: for memory; where it meets a step for which the packet count is used up; where
-- crossings are too many for a share; and before any call of the crew, where the cut or the width is refused
abbrev pub MayRefuse : {C : Type 0} → Setting → (World → ℕ) → ℕ → C → RunFault → C → Type 0
MayRefuse s rule cut old fault.NoMemory new = Unit {0}
MayRefuse s rule cut old fault.CountFull new = RunMeetsFull s
MayRefuse s rule cut old fault.ShareFull new = PassesShareAtWindow s rule cut
MayRefuse s rule cut old fault.BadCut new = new ≡ old
MayRefuse s rule cut old fault.BadWidth new = new ≡ old

-- ---- a run

-- whether what was asked for is refused, and when
abbrev pub TellsRunAsked : PlainScenario → Windows → Result Outcome RunFault → Type 0
TellsRunAsked p asked (Err fault.BadCut) = ¬ IsCut asked.cut
TellsRunAsked p asked (Err fault.BadWidth) = IsCut asked.cut × ¬ MayBeWide p asked.width
TellsRunAsked p asked r = IsCut asked.cut × MayBeWide p asked.width

module _ {C : Type 0} (handed : C → List (List cell.PlainJob) → C → Type 0) where
  -- the crew was handed exactly the jobs of the windows of a whole run, window after window
  abbrev pub IsHandedWindows : Setting → (World → ℕ) → ℕ → C → C → Type 0
  IsHandedWindows s rule cut old new =
      (begins : List World) × (w : World) × AreWindows s rule begins w × IsLast s w
      × handed old (window_jobs rule cut begins) new
