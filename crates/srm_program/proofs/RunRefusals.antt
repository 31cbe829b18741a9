-- What the refusal of an engine is to the program, and what its sink took.
use Rattle.std.proofs.Common.{◌≡◌, ◌∙◌, ◌+◌, add-zero, ℕ, List, Err, inl, inr, refl, sym, subst}
use Rattle.srm_scenario.specs.Plain.{PlainScenario}
use Rattle.srm_member.specs.declared.row.Row.{Row}
use Rattle.srm_cell.specs.Setting.{setting_of}
use Rattle.srm_options.specs.declared.options.Engine.{Engine}
use Rattle.srm_options.specs.declared.options.Engine.TheVariants.{Step, Window}
use Rattle.srm_options.specs.declared.options.Options.{Options}
use Rattle.srm_engine.specs.declared.fault.RunFault.TheVariants as fault
use Rattle.srm_engine.specs.declared.stream_fault.StreamFault.{StreamFault}
use Rattle.srm_engine.specs.declared.stream_fault.StreamFault.TheVariants.{Run, Stopped}
use Rattle.srm_engine.specs.Streams.{TakesTraceFront, TakesUpTo, MeetsRefusal, StandsAs, stopped_in}
use Rattle.srm_engine.specs.Windowed.{rule_of}
use Rattle.srm_engine.specs.WindowStreams.{TellsStreamAsked, IsLeft, RefusedAtWindow}
use Rattle.srm_engine.proofs.Stepping.{meets_full}
use Rattle.srm_program.specs.declared.fault.LabFault.{LabFault}
use Rattle.srm_program.specs.declared.fault.LabFault.TheVariants.{CountFull, ShareFull}
use Rattle.srm_interfaces.specs.declared.sink.Stage.{Stage}
use Rattle.srm_program.specs.Reports.{failures_after_run}
use Rattle.srm_program.specs.Runs.{fault_of_stream, MayBreakOffBy, StandsAfter, TellsRows}

-- a run that is not cut into windows
no_window : (e : Engine) (P : Type 0) → e ≡ Step → e ≡ Window → P
no_window e P step window = cc

module _ {S : Type 0} (took part : S → List Row → S → Type 0) (p : PlainScenario) (seed : ℕ) (o : Options)
    (old : S) (x : StreamFault) (new : S) where
  -- one event after the other
  pub steps_refused : o.engine ≡ Step → MeetsRefusal took part (setting_of p seed) old x new
      → TakesTraceFront took part (setting_of p seed) old new → TellsRows took part p seed o old (Err (fault_of_stream x)) new
  steps_refused step why front = by x why
    where
      by : (x : StreamFault) → MeetsRefusal took part (setting_of p seed) old x new
          → TellsRows took part p seed o old (Err (fault_of_stream x)) new
      by (Run fault.NoMemory) why = (front, no_window o.engine _ step)
      by (Run fault.CountFull) why = (
        (
          meets_full (setting_of p seed) why.3.0 why.3.2 why.3.5,
          (
            why.0,
            why.1,
            why.2,
            subst (λ (e : Engine). MayBreakOffBy e (setting_of p seed) p o CountFull why.0) (sym step) why.3,
          ),
        ),
        no_window o.engine _ step,
      )
      by (Run fault.ShareFull) why = absurd why
      by (Run fault.BadCut) why = absurd why
      by (Run fault.BadWidth) why = absurd why
      by (Stopped n) why = (front, no_window o.engine _ step)

  -- in windows of time
  pub windows_refused : (A : Type 0) → o.engine ≡ Window → TellsStreamAsked {A = A} p (record { cut = o.cut; width = o.width }) (Err x)
      → IsLeft {A = A} old (Err x) new
      → RefusedAtWindow took part (setting_of p seed) (rule_of (setting_of p seed) p o.width) o.cut old x new
      → TakesTraceFront took part (setting_of p seed) old new → TellsRows took part p seed o old (Err (fault_of_stream x)) new
  windows_refused A window asked left refused front = by x asked left refused
    where
      broken_off : (f : LabFault)
          → TakesUpTo took part (setting_of p seed) (MayBreakOffBy Window (setting_of p seed) p o f) old new
          → TakesUpTo took part (setting_of p seed) (MayBreakOffBy o.engine (setting_of p seed) p o f) old new
      broken_off f h = subst (λ (e : Engine). TakesUpTo took part (setting_of p seed)
          (MayBreakOffBy e (setting_of p seed) p o f) old new) (sym window) h

      by : (x : StreamFault) → TellsStreamAsked {A = A} p (record { cut = o.cut; width = o.width }) (Err x)
          → IsLeft {A = A} old (Err x) new
          → RefusedAtWindow took part (setting_of p seed) (rule_of (setting_of p seed) p o.width) o.cut old x new
          → TellsRows took part p seed o old (Err (fault_of_stream x)) new
      by (Run fault.NoMemory) asked left refused = (front, λ e. asked)
      by (Run fault.CountFull) asked left refused = ((refused.3.2.0, broken_off CountFull refused), λ e. asked)
      by (Run fault.ShareFull) asked left refused =
          (broken_off ShareFull refused, (window, asked, (refused.0, refused.3.0, refused.3.1, refused.3.2)))
      by (Run fault.BadCut) asked left refused = (left (inl refl), (window, asked))
      by (Run fault.BadWidth) asked left refused = (left (inr refl), (window, asked.0, asked.1))
      by (Stopped n) asked left refused = (front, λ e. asked)

-- a sink stands as the program's fault says, where it stands as the engine's does
pub stands_after : (A T : Type 0) (x : StreamFault) (at : Stage) → StandsAs {A = A} (Err x) at
    → StandsAfter {T = T} (Err (fault_of_stream x)) at
stands_after A T (Run fault.NoMemory) at h = tt
stands_after A T (Run fault.CountFull) at h = h
stands_after A T (Run fault.ShareFull) at h = h
stands_after A T (Run fault.BadCut) at h = tt
stands_after A T (Run fault.BadWidth) at h = tt
stands_after A T (Stopped n) at h = h

-- and its device failed as often
pub failures_after : (A T : Type 0) (x : StreamFault) (old new : ℕ) → new ≡ old + stopped_in {A = A} (Err x)
    → new ≡ failures_after_run {T = T} (Err (fault_of_stream x)) old
failures_after A T (Run fault.NoMemory) old new h = h ∙ add-zero old
failures_after A T (Run fault.CountFull) old new h = h ∙ add-zero old
failures_after A T (Run fault.ShareFull) old new h = h ∙ add-zero old
failures_after A T (Run fault.BadCut) old new h = h ∙ add-zero old
failures_after A T (Run fault.BadWidth) old new h = h ∙ add-zero old
failures_after A T (Stopped n) old new h = h
