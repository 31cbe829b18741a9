-- The world of all members, and the sequential run.
use Rattle.std.specs.Prelude.{◌≡◌, ℕ, zero, suc, List, [], ◌∷◌, ◌++◌, map, Option, Some, None, ◌==◌, if◌then◌else◌}
use Rattle.std.specs.declared.cmp.Ordering.{Ordering}
use Rattle.srm_net.specs.Keys.{key_cmp}
use Rattle.srm_member.specs.declared.row.Row.{Row}
use Rattle.srm_member.specs.declared.exit.Exit.{Exit}
use Rattle.srm_member.specs.Record.{MemberState, exit_of}
use Rattle.srm_cell.specs.Setting.{Setting}
use Rattle.srm_cell.specs.Cells.{PlainCell, opening_cell, Event, earlier, next_event, before, StepOutcome, Idle, Full}
use Rattle.srm_cell.specs.Cells.{Spent, Done, Stepped, step_at}
use Rattle.srm_cell.specs.OwnRuns.{told_to}
use Rattle.srm_cell.specs.Crossings.{crossings}

-- rows are compared by their keys
abbrev pub row_cmp : Row → Row → Ordering
row_cmp q r = key_cmp q.key r.key

-- the cells of all members, in order of their numbers, and the rows of all events so far
pub record World : Type 0 where
  pub cells : List PlainCell
  pub trace : List Row

-- ---- steps

-- the cells of member i and on after member m's step: its own is the new one, and every other hears the packet
unfoldable pub cells_after : Setting → ℕ → Stepped → ℕ → List PlainCell → List PlainCell
cells_after s m d i [] = []
cells_after s m d i (c ∷ cs) = (if i == m then d.cell else told_to s.traffic d.row.sent i c)
    ∷ cells_after s m d (suc i) cs

-- the world after member m's step
unfoldable pub after_step : Setting → World → ℕ → StepOutcome Stepped → StepOutcome World
after_step s w m Idle = Idle
after_step s w m Full = Full
after_step s w m Spent = Spent
after_step s w m (Done d) = Done (record { cells = cells_after s m d 0 w.cells; trace = w.trace ++ d.row ∷ [] })

-- the least pending event of the members from i on
unfoldable pub least_event : ℕ → List PlainCell → Option Event
least_event i [] = None
least_event i (c ∷ cs) = earlier (next_event i c) (least_event (suc i) cs)

-- the step that takes this event
unfoldable pub step_of : Setting → World → Option Event → StepOutcome World
step_of s w None = Idle
step_of s w (Some e) = after_step s w e.key.member (step_at (Some e))

-- the step that takes the least pending event of all, if that is before the end
unfoldable pub step_to : Setting → ℕ → World → StepOutcome World
step_to s till w = step_of s w (before till (least_event 0 w.cells))

-- the step of the sequential run
abbrev pub step : Setting → World → StepOutcome World
step s w = step_to s s.traffic.until w

-- ---- the sequential run

-- the world after n steps
unfoldable pub run : Setting → ℕ → World → StepOutcome World
run s zero w = Done w
run s (suc n) w = elim (step s w) [ Idle ↦ Idle | Full ↦ Full | Spent ↦ Spent | Done v ↦ run s n v ]

-- the last world of a run that ends within so many steps
unfoldable pub last_world : Setting → ℕ → World → World
last_world s zero w = w
last_world s (suc n) w = elim (step s w) [ Idle ↦ w | Full ↦ w | Spent ↦ w | Done v ↦ last_world s n v ]

-- the cells of n members from i on at the beginning
unfoldable pub opening_cells : Setting → ℕ → ℕ → List PlainCell
opening_cells s zero i = []
opening_cells s (suc n) i = opening_cell s i ∷ opening_cells s n (suc i)

-- the world at the beginning
unfoldable pub opening : Setting → World
opening s = record { cells = opening_cells s s.traffic.members 0; trace = [] }

-- the sequential run comes to this world
abbrev pub IsReached : Setting → World → Type 0
IsReached s w = (n : ℕ) × (run s n (opening s) ≡ Done w)

-- the last world of the sequential run: nothing is pending before `until`
pub record IsLast (s : Setting) (w : World) : Type 0 where
  pub reached : IsReached s w
  pub idle : step s w ≡ Idle

-- the sequential run meets a step for which the packet count is used up
abbrev pub RunMeetsFull : Setting → Type 0
RunMeetsFull s = (n : ℕ) × (run s n (opening s) ≡ Full)

-- ---- what a run ends with

-- a member's exit: as it left, or else as it is. In no world of a run a member is gone and left none
abbrev pub exit_at : Option MemberState → Option Exit → Exit
exit_at o (Some e) = e
exit_at (Some m) None = exit_of m
exit_at None None = record { member = 0; held = []; missing = [] }

-- the exits of all members, in order of their numbers
abbrev pub exits_of : World → List Exit
exits_of w = map (λ (c : PlainCell). exit_at c.holds c.exit) w.cells

-- these are the rows, the exits and the crossings of the whole sequential run
pub record IsOutcome (s : Setting) (trace : List Row) (exits : List Exit) (totals : List ℕ) : Type 0 where
  pub world : World
  pub last : IsLast s world
  pub trace_is : trace ≡ world.trace
  pub exits_are : exits ≡ exits_of world
  pub totals_are : totals ≡ crossings s.traffic world.trace
