-- Runs in windows that hand their rows to a sink, and what they tell.
use Rattle.std.specs.Prelude.{◌≡◌, ◌⊎◌, ℕ, List, Result, Ok, Err, IfErr, IfSome}
use Rattle.srm_scenario.specs.Plain.{PlainScenario}
use Rattle.srm_member.specs.declared.row.Row.{Row}
use Rattle.srm_cell.specs.Setting.{Setting}
use Rattle.srm_cell.specs.Jobs as cell
use Rattle.srm_engine.specs.declared.width.Windows.{Windows}
use Rattle.srm_engine.specs.declared.fault.RunFault.TheVariants as fault
use Rattle.srm_engine.specs.declared.stream_fault.StreamFault.{StreamFault}
use Rattle.srm_engine.specs.declared.stream_fault.StreamFault.TheVariants.{Run, Stopped}
use Rattle.srm_model.specs.World.{World}
use Rattle.srm_engine.specs.Streams.{run_fault_in, TakesUpTo}
use Rattle.srm_engine.specs.Windowed.{rule_of, IsCut, IsHandedWindows, MayBeWide, TellsRunAsked, MayRefuse, MayCome}

-- ---- what is asked for

-- whether what was asked for is refused, and when: as that of a run whose rows are kept
abbrev pub TellsStreamAsked : {A : Type 0} → PlainScenario → Windows → Result A StreamFault → Type 0
TellsStreamAsked p asked (Err (Run e)) = TellsRunAsked p asked (Err e)
TellsStreamAsked p asked r = IsCut asked.cut × MayBeWide p asked.width

-- a sink is left as it was where the cut or the width is refused
abbrev pub IsLeft : {A S : Type 0} → S → Result A StreamFault → S → Type 0
IsLeft old r new = IfErr r (λ x. (x ≡ Run fault.BadCut) ⊎ (x ≡ Run fault.BadWidth) → new ≡ old)

-- ---- refusals

module _ {S : Type 0} (took part : S → List Row → S → Type 0) where
  -- where a run in windows is refused for what it counts, windows come to a world up to which the sink took the rows,
  -- and the next may be refused so
  abbrev pub RefusedAtWindow : Setting → (World → ℕ) → ℕ → S → StreamFault → S → Type 0
  RefusedAtWindow s rule cut old (Run fault.CountFull) new =
      TakesUpTo took part s (λ w. MayCome s rule cut w fault.CountFull) old new
  RefusedAtWindow s rule cut old (Run fault.ShareFull) new =
      TakesUpTo took part s (λ w. MayCome s rule cut w fault.ShareFull) old new
  RefusedAtWindow s rule cut old (Run e) new = Unit {0}
  RefusedAtWindow s rule cut old (Stopped n) new = Unit {0}

  -- so of what a run answers that is asked for so
  abbrev pub RefusedInWindows : {A : Type 0} → Setting → PlainScenario → Windows → S → Result A StreamFault → S → Type 0
  RefusedInWindows s p asked old r new = IfErr r (λ x. RefusedAtWindow s (rule_of s p asked.width) asked.cut old x new)

-- ---- calls of a crew

-- when a run in windows is refused: where `window_run` is, or where the sink was
abbrev pub MeetsWindowRefusal : {C : Type 0} → Setting → (World → ℕ) → ℕ → C → StreamFault → C → Type 0
MeetsWindowRefusal s rule cut old x new = IfSome (run_fault_in x) (λ e. MayRefuse s rule cut old e new)

module _ {C : Type 0} (handed : C → List (List cell.PlainJob) → C → Type 0) where
  -- what a crew was handed in a run: exactly the windows' jobs, window after window; or when the run is refused
  abbrev pub TellsCalls : {A : Type 0} → Setting → (World → ℕ) → ℕ → C → Result A StreamFault → C → Type 0
  TellsCalls s rule cut old (Ok v) new = IsHandedWindows handed s rule cut old new
  TellsCalls s rule cut old (Err e) new = MeetsWindowRefusal s rule cut old e new

  -- so of a run that is asked for so
  abbrev pub CallsInWindows : {A : Type 0} → Setting → PlainScenario → Windows → C → Result A StreamFault → C → Type 0
  CallsInWindows s p asked old r new = TellsCalls s (rule_of s p asked.width) asked.cut old r new
