-- What is seen of the engine in windows that keeps what a watch keeps, and what its calls tell.
use Rattle.std.specs.Prelude.{◌≡◌, ℕ, List, [], ◌∷◌, ◌++◌, IsSorted, Result, MatchResult}
use Rattle.srm_member.specs.declared.row.Row.{Row}
use Rattle.srm_member.specs.Record.{Record}
use Rattle.srm_cell.specs.Jobs as cell
use Rattle.srm_model.specs.World.{World, IsLast, row_cmp}
use Rattle.srm_model.specs.WindowRuns.{jobs_of}
use Rattle.srm_model.specs.WindowChains.{window_jobs}
use Rattle.srm_engine.specs.declared.fault.RunFault.{RunFault}
use Rattle.srm_engine.specs.declared.watch_engine.WatchEngine.{WatchEngine}
use Rattle.srm_engine.specs.Groups.{all_in, sizes}
use Rattle.srm_interfaces.specs.Watches.{KeepMembers}
use Rattle.srm_interfaces.specs.InTurn.{WereClosed}
use Rattle.srm_engine.specs.WindowEngines.{ComesTo, IsUnderWay, OpensAt, setting_by, rule_by}
use Rattle.srm_engine.specs.Windowed.{MayCome, MayRefuseWindow}

module _ {M K : Type 0} where
  -- all that is kept, group after group
  abbrev pub kept_by : WatchEngine M K → List K
  kept_by e = all_in e.kept.items

  -- the run is under way, and something is kept of each cell
  pub record IsWatching (f : M → Record) (e : WatchEngine M K) : Type 0 where
    pub under_way : IsUnderWay f e.engine
    pub each : sizes e.kept.items ≡ sizes e.engine.groups.groups.items

  -- what is kept of each member keeps its rows of these
  abbrev pub KeepsRows : (K → List Row → Type 0) → WatchEngine M K → List Row → Type 0
  KeepsRows keeps e rows = KeepMembers keeps 0 (kept_by e) rows

  module _ {C : Type 0} (handed : C → List (List cell.PlainJob) → C → Type 0) (f : M → Record)
      (keeps : K → List Row → Type 0) where
    -- what one window tells: one window more, for which the crew was handed its jobs, and whose rows, in order of their
    -- keys, were kept with those before, of whichever rows, until that was closed; or why it is refused
    abbrev pub TellsWatched : (List K → List K → Type 0) → WatchEngine M K → C → Result (WatchEngine M K) RunFault → C
        → Type 0
    TellsWatched closes e old r new =
        (seed : ℕ) (begins : List World) (w : World) → ComesTo f seed e.engine begins w
        → MatchResult r (λ v. ((u : World) × ComesTo f seed v.engine (begins ++ w ∷ []) u
        × ((rows : List Row) × (u.trace ≡ w.trace ++ rows) × IsSorted row_cmp rows
        × ((before : List Row) → KeepsRows keeps e before
        → WereClosed closes (λ kept. KeepMembers keeps 0 kept (before ++ rows)) v.kept.items)))
        × handed old (jobs_of e.engine.groups.cut (rule_by e.engine seed w) w ∷ []) new)
        (MayRefuseWindow (setting_by e.engine seed) (rule_by e.engine seed w) e.engine.groups.cut w)

    -- what all windows of a run tell: they come to its last world, of whose trace each member's rows are kept, and the
    -- crew was handed their jobs, window after window; or windows come to a world, and the next is refused
    abbrev pub TellsAllWatched : WatchEngine M K → C → Result (WatchEngine M K) RunFault → C → Type 0
    TellsAllWatched e old r new =
        (seed : ℕ) → OpensAt f seed e.engine → KeepsRows keeps e []
        → MatchResult r (λ v. (begins : List World) × (w : World) × ComesTo f seed v.engine begins w
        × IsLast (setting_by e.engine seed) w × KeepsRows keeps v w.trace
        × handed old (window_jobs (rule_by e.engine seed) e.engine.groups.cut begins) new)
        (λ x. (w : World) × MayCome (setting_by e.engine seed) (rule_by e.engine seed) e.engine.groups.cut w x)
