-- Where the windows of a run end: so many ticks after they begin, or at the least promise.
use Rattle.std.specs.Prelude.{◌≡◌, ◌+◌, ◌<◌, ℕ, min, List, Option, Some, None, Result, Ok, Err}
use Rattle.srm_scenario.specs.Plain.{PlainScenario}
use Rattle.srm_cell.specs.Setting.{Setting, setting_of}
use Rattle.srm_options.specs.declared.width.Width.{Width}
use Rattle.srm_engine.specs.declared.width.Windows.{Windows}
use Rattle.srm_engine.specs.declared.cutting.Cutting.{Cutting}
use Rattle.srm_engine.specs.declared.ends.Ends.{Ends}
use Rattle.srm_engine.specs.declared.ends.Ends.TheVariants.{After, Promised}
use Rattle.srm_engine.specs.declared.fault.RunFault.{RunFault}
use Rattle.srm_engine.specs.declared.fault.RunFault.TheVariants as fault
use Rattle.srm_engine.specs.declared.soonest.Soonest.{Soonest}
use Rattle.srm_model.specs.World.{World}
use Rattle.srm_model.specs.Windows.{IsWidth, promise_end}
use Rattle.srm_model.specs.WindowChains.{width_rule}
use Rattle.srm_engine.specs.Soonest.{first_promise}
use Rattle.srm_engine.specs.Windowed.{IsCut, MayBeWide, rule_of}

-- ---- ends

-- where the windows of a run end
abbrev pub ends_rule : Setting → Ends → World → ℕ
ends_rule s (After n) = width_rule s n
ends_rule s Promised = promise_end s

-- the windows of a run may end so
abbrev pub MayEnd : PlainScenario → Ends → Type 0
MayEnd p (After n) = (0 < n) × IsWidth p n
MayEnd p Promised = Unit {0}

-- what is told where windows of a width are asked for: where they end, if they may be so wide
abbrev pub TellsRule : PlainScenario → Width → Option Ends → Type 0
TellsRule p width (Some ends) =
    MayBeWide p width × MayEnd p ends
    × ((seed : ℕ) → rule_of (setting_of p seed) p width ≡ ends_rule (setting_of p seed) ends)
TellsRule p width None = ¬ MayBeWide p width

-- where a window ends that begins at a tick, in groups in which something is due so soon, of a run that ends at `until`
abbrev pub end_from : Ends → List Soonest → ℕ → ℕ → ℕ
end_from (After n) xs begin until = min (begin + n) until
end_from Promised xs begin until = first_promise until xs

-- ---- cutting

-- a run may be cut so
abbrev pub MayCut : PlainScenario → Cutting → Type 0
MayCut p c = IsCut c.cut × MayEnd p c.ends

-- what is told where a run is to be cut so: how it is cut; or that a job may not have so many cells, or else that
-- windows may not be so wide
abbrev pub TellsCutting : PlainScenario → Windows → Result Cutting RunFault → Type 0
TellsCutting p asked (Ok c) = IsCut c.cut × (c.cut ≡ asked.cut) × TellsRule p asked.width (Some c.ends)
TellsCutting p asked (Err fault.BadCut) = ¬ IsCut asked.cut
TellsCutting p asked (Err fault.BadWidth) = IsCut asked.cut × ¬ MayBeWide p asked.width
TellsCutting p asked (Err e) = ⊥
