-- What is kept of each member's rows, from window to window.
use Rattle.std.specs.Prelude.{◌≤◌, ℕ, List, ◌++◌}
use Rattle.srm_member.specs.declared.row.Row.{Row}
use Rattle.srm_cell.specs.Setting.{Setting, IsFit}
use Rattle.srm_model.specs.World.{World, IsReached}
use Rattle.srm_model.specs.Schedules.{IsSafe}
use Rattle.srm_model.specs.WindowRuns.{OwnResult, AreOwnRuns, rows_in, IsMerge}
use Rattle.srm_interfaces.specs.Watches.{KeepEach, KeepMembers}

module _ {K : Type 0} (keeps : K → List Row → Type 0) where
  -- so it goes on over a window: what kept each member's rows of some, such as those so far, or none, and takes in
  -- those of its own run, keeps its rows of these and the window's. No row is sorted
  abbrev pub KeptGoesOn : Type 0
  KeptGoesOn =
      (s : Setting) (w : World) (till : ℕ) → IsFit s → IsReached s w → till ≤ s.traffic.until → IsSafe s till w
      → (results : List OwnResult) → AreOwnRuns till 0 w.cells results
      → (rows : List Row) → IsMerge (rows_in results) rows
      → (before : List Row) (old new : List K) → KeepMembers keeps 0 old before
      → KeepEach keeps old (rows_in results) new → KeepMembers keeps 0 new (before ++ rows)
