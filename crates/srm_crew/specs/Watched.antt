-- A watched job, advanced.
use Rattle.std.specs.Prelude.{◌≡◌, ◌<◌, ℕ, List, All, length, Result, Ok, Err}
use Rattle.srm_net.specs.Network.{Network}
use Rattle.srm_scenario.specs.Plain.{PlainScenario}
use Rattle.srm_member.specs.declared.row.Row.{Row}
use Rattle.srm_member.specs.Record.{Record}
use Rattle.srm_cell.specs.declared.cell.Cell.{Cell}
use Rattle.srm_cell.specs.declared.job.Done as job
use Rattle.srm_cell.specs.declared.fault.CellFault.{CellFault}
use Rattle.srm_cell.specs.declared.fault.CellFault.TheVariants as fault
use Rattle.srm_cell.specs.Jobs.{Advances, MayAdvance}
use Rattle.srm_cell.specs.Views.{IsSoundCell}
use Rattle.srm_crew.specs.declared.watching.Watching.{Watching}
use Rattle.srm_interfaces.specs.declared.watched.WatchedJob.{WatchedJob}
use Rattle.srm_interfaces.specs.declared.watched.WatchedDone.{WatchedDone}
use Rattle.srm_interfaces.specs.Watches.{IsSoundJob, Watches, job_in, jobs_in}

-- the work is on runs of this scenario on this network
abbrev pub IsWatchOn : {W : Type 0} → Watching W → PlainScenario → Network → Type 0
IsWatchOn w k net = (w.session.scenario.now ≡ k) × (w.session.net.now ≡ net)

-- the cell is sound, and that of one of so many members
abbrev pub IsOfMember : {M : Type 0} → (M → Record) → ℕ → Cell M → Type 0
IsOfMember f members c = IsSoundCell f c × (c.number < members)

module _ {M K : Type 0} where
  -- what advancing one watched job tells: what is left of what is done of it; or why not, as without a watch, but
  -- that memory may run out for the watch too
  abbrev pub AdvanceOne : (M → Record) → (List K → List (List Row) → List K → Type 0) → PlainScenario → Network
      → WatchedJob M K → Result (WatchedDone M K) CellFault → Type 0
  AdvanceOne f takes k net j (Ok e) =
      (d : job.Done M) × Advances f k net (job_in j) (Ok d) × Watches takes k net j.kept.items d e
  AdvanceOne f takes k net j (Err fault.NoMemory) = Unit {0}
  AdvanceOne f takes k net j (Err e) = Advances f k net (job_in j) (Err e)

  -- the jobs may be advanced, and are sound
  abbrev pub MayWatch : (M → Record) → Network → List (WatchedJob M K) → Type 0
  MayWatch f net js = All (λ j. MayAdvance f (length net.hosts) j) (jobs_in js) × All (IsSoundJob f) js
