-- Runs in windows of whose rows is kept what a watch keeps, and what they tell.
use Rattle.std.specs.Prelude.{◌≡◌, ℕ, List, length, Result, Ok, Err, IfOk}
use Rattle.std.specs.Global.{Vec}
use Rattle.srm_scenario.specs.Plain.{PlainScenario}
use Rattle.srm_member.specs.declared.row.Row.{Row}
use Rattle.srm_member.specs.declared.exit.Exit.{Exit}
use Rattle.srm_cell.specs.Setting.{Setting}
use Rattle.srm_cell.specs.Jobs as cell
use Rattle.srm_model.specs.World.{World, IsLast, IsOutcome}
use Rattle.srm_model.specs.WindowChains.{AreWindows, window_jobs}
use Rattle.srm_engine.specs.declared.fault.RunFault.{RunFault}
use Rattle.srm_engine.specs.declared.fault.RunFault.TheVariants as fault
use Rattle.srm_engine.specs.declared.width.Windows.{Windows}
use Rattle.srm_interfaces.specs.Watches.{KeepMembers}
use Rattle.srm_engine.specs.Windowed.{IsCut, MayBeWide, MayCome, TellsRunAsked, rule_of}

-- whether what was asked for is refused, and when: as that of a run whose rows are kept
abbrev pub TellsWatchAsked : {A : Type 0} → PlainScenario → Windows → Result A RunFault → Type 0
TellsWatchAsked p asked (Ok v) = IsCut asked.cut × MayBeWide p asked.width
TellsWatchAsked p asked (Err e) = TellsRunAsked p asked (Err e)

-- what is kept of each member, in order of their numbers, keeps its rows of the sequential run, and the totals are that
-- run's
abbrev pub TellsKept : {K : Type 0} → (K → List Row → Type 0) → Setting → Result (Vec K × List ℕ) RunFault → Type 0
TellsKept keeps s r = IfOk r (λ v. (length v.0.items ≡ s.traffic.members)
    × ((rows : List Row) × (exits : List Exit) × IsOutcome s rows exits v.1 × KeepMembers keeps 0 v.0.items rows))

-- when such a run is refused: for memory; for what it counts only where windows come to a world, and the next may be
-- refused so; and before any call of the crew, where the cut or the width is
abbrev pub MeetsWatchRefusal : {C : Type 0} → Setting → (World → ℕ) → ℕ → C → RunFault → C → Type 0
MeetsWatchRefusal s rule cut old fault.NoMemory new = Unit {0}
MeetsWatchRefusal s rule cut old fault.CountFull new = (w : World) × MayCome s rule cut w fault.CountFull
MeetsWatchRefusal s rule cut old fault.ShareFull new = (w : World) × MayCome s rule cut w fault.ShareFull
MeetsWatchRefusal s rule cut old fault.BadCut new = new ≡ old
MeetsWatchRefusal s rule cut old fault.BadWidth new = new ≡ old

module _ {C : Type 0} (handed : C → List (List cell.PlainJob) → C → Type 0) where
  -- what a crew was handed in such a run: exactly the windows' jobs, window after window; or when the run is refused
  abbrev pub TellsWatchCalls : {A : Type 0} → Setting → (World → ℕ) → ℕ → C → Result A RunFault → C → Type 0
  TellsWatchCalls s rule cut old (Ok v) new =
      (begins : List World) × (w : World) × AreWindows s rule begins w × IsLast s w
      × handed old (window_jobs rule cut begins) new
  TellsWatchCalls s rule cut old (Err e) new = MeetsWatchRefusal s rule cut old e new

  -- so of a run that is asked for so
  abbrev pub CallsOfWatch : {A : Type 0} → Setting → PlainScenario → Windows → C → Result A RunFault → C → Type 0
  CallsOfWatch s p asked old r new = TellsWatchCalls s (rule_of s p asked.width) asked.cut old r new
