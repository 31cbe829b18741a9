-- Windows one after the other, from the beginning of a run to its end.
use Rattle.std.specs.Prelude.{◌≡◌, ℕ, ◌<◌, ◌≤◌, List, [], ◌∷◌, ◌++◌, map, Some, None, unwrap_or, ◌+◌, min}
use Rattle.srm_net.specs.Least.{least_delay}
use Rattle.srm_scenario.specs.Plain.{PlainScenario, network_of}
use Rattle.srm_cell.specs.Setting.{Setting}
use Rattle.srm_cell.specs.Cells.{Event, before, time_of}
use Rattle.srm_cell.specs.Jobs.{PlainJob}
use Rattle.srm_model.specs.World.{World, least_event, opening, IsReached}
use Rattle.srm_model.specs.Schedules.{IsSafe}
use Rattle.srm_model.specs.Windows.{IsFirstQuiet}
use Rattle.srm_model.specs.WindowRuns.{jobs_of}

-- this event is the least pending one of a world, before `until`
abbrev pub IsNext : Setting → World → Event → Type 0
IsNext s w e = before s.traffic.until (least_event 0 w.cells) ≡ Some e

-- nothing is pending in a world before `until`
abbrev pub IsOver : Setting → World → Type 0
IsOver s w = before s.traffic.until (least_event 0 w.cells) ≡ None

-- when the window that begins in a world begins: at the least pending time of all
abbrev pub start_of : Setting → World → ℕ
start_of s w = unwrap_or (time_of (least_event 0 w.cells)) s.traffic.until

-- ---- where windows end

-- a rule that gives each window of a run its end: later than it begins, at most `until`, and safe
pub record IsEndRule (s : Setting) (rule : World → ℕ) : Type 0 where
  pub later : (w : World) (e : Event) → IsReached s w → IsNext s w e → e.key.time < rule w
  pub within : (w : World) → rule w ≤ s.traffic.until
  pub safe : (w : World) (e : Event) → IsReached s w → IsNext s w e → IsSafe s (rule w) w

-- a window of this width ends so many ticks after it begins, at most at `until`
abbrev pub width_rule : Setting → ℕ → World → ℕ
width_rule s width w = min (start_of s w + width) s.traffic.until

-- the widest width: the least link delay, or, where there is no link, one that no window comes to the end of before
-- `until`
abbrev pub least_width : PlainScenario → ℕ
least_width p = unwrap_or (least_delay (network_of p)) p.until

-- ---- the chain of windows

-- the windows of a run up to a world, by the worlds in which they begin: the first in the opening world, and each next
-- one, while something is pending, in the first world with no event before the last one's end pending
pub data AreWindows (s : Setting) (rule : World → ℕ) : List World → World → Type 0 where
  no_window : AreWindows s rule [] (opening s)
  next_window : {begins : List World} {w v : World} {e : Event} → AreWindows s rule begins w → IsNext s w e
      → IsFirstQuiet s (rule w) w v → AreWindows s rule (begins ++ w ∷ []) v

-- the jobs of the windows that begin in these worlds, one list for each window, as a crew is handed them
abbrev pub window_jobs : (World → ℕ) → ℕ → List World → List (List PlainJob)
window_jobs rule cut begins = map (λ (w : World). jobs_of cut (rule w) w) begins
