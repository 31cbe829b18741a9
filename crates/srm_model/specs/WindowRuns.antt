-- One window: every cell runs alone to an end, the rows are merged, and every cell hears their packets.
use Rattle.std.specs.Prelude.{◌≡◌, ◌⊎◌, ℕ, ◌<◌, zero, suc, List, [], ◌∷◌, ◌++◌, map, length, take, drop, Some}
use Rattle.std.specs.Prelude.{slice_get, IsPermutation, IsSorted}
use Rattle.std.specs.List.{AllZip}
use Rattle.srm_net.specs.declared.packet.Packet.{Packet}
use Rattle.srm_member.specs.declared.row.Row.{Row}
use Rattle.srm_member.specs.ByMember.{AreAlike}
use Rattle.srm_cell.specs.Setting.{Traffic, Setting}
use Rattle.srm_cell.specs.Cells.{PlainCell}
use Rattle.srm_cell.specs.OwnRuns.{IsOwnRun, MeetsFull, hear_rows}
use Rattle.srm_cell.specs.Cells.{OwnCell}
use Rattle.srm_cell.specs.Jobs.{PlainJob}
use Rattle.srm_cell.specs.Crossings.{crossings, added_each, joined}
use Rattle.srm_model.specs.World.{World, row_cmp}
use Rattle.srm_model.specs.Hearing.{IsUnheard}

-- what a cell's own run gives: its rows, and the cell that it leaves
pub record OwnResult : Type 0 where
  pub rows : List Row
  pub cell : PlainCell

-- the cells of member i, member i + 1 and so on, each with its member
abbrev pub cells_from : ℕ → List PlainCell → List OwnCell
cells_from i [] = []
cells_from i (c ∷ cs) = record { member = i; cell = c } ∷ cells_from (suc i) cs

-- the results of the own runs to an end of these cells
abbrev pub AreRunsOf : ℕ → List OwnCell → List OwnResult → Type 0
AreRunsOf till qs rs = AllZip (λ q r. IsOwnRun till q.member q.cell r.rows r.cell) qs rs

-- the results of the own runs to an end of the cells of member i and on
abbrev pub AreOwnRuns : ℕ → ℕ → List PlainCell → List OwnResult → Type 0
AreOwnRuns till i cs rs = AreRunsOf till (cells_from i cs) rs

-- the rows of each result
abbrev pub rows_in : List OwnResult → List (List Row)
rows_in rs = map (λ (r : OwnResult). r.rows) rs

-- the cell of each result
abbrev pub cells_in : List OwnResult → List PlainCell
cells_in rs = map (λ (r : OwnResult). r.cell) rs

-- these rows are the rows of all lists, in order of their keys
pub record IsMerge (lists : List (List Row)) (rows : List Row) : Type 0 where
  pub all : IsPermutation (joined lists) rows
  pub in_order : IsSorted row_cmp rows

-- each member's rows stand, list after list, in the order in which they stand in a merge of the lists
abbrev pub StandAlike : List (List Row) → Type 0
StandAlike lists = (rows : List Row) → IsMerge lists rows → AreAlike (joined lists) rows

-- the cells of member i and on, each after it heard the packets of the rows in their order. A member does not hear its
-- own
abbrev pub each_hears : Traffic → ℕ → List Row → List PlainCell → List PlainCell
each_hears t i rows [] = []
each_hears t i rows (c ∷ cs) = hear_rows t i rows c ∷ each_hears t (suc i) rows cs

-- the packets of the rows are new to the cells of all members where these hear one after the other, and members sent
-- them before `until`
abbrev pub AreNewInTurn : Traffic → List Row → List PlainCell → Type 0
AreNewInTurn t rows cs =
    (before after : List Row) (r : Row) (p : Packet) → rows ≡ before ++ r ∷ after → r.sent ≡ Some p
    → IsUnheard p.id (each_hears t 0 before cs) × (p.id.sender < t.members) × (p.sent < t.until)

-- a world after a window with these results, whose rows are merged to these
abbrev pub after_window : Setting → World → List OwnResult → List Row → World
after_window s w results rows =
    record { cells = each_hears s.traffic 0 rows (cells_in results); trace = w.trace ++ rows }

-- v is w after a window to this end: the own runs of all cells, each alone; their rows merged; and every packet in them
-- heard
pub record IsWindow (s : Setting) (till : ℕ) (w v : World) : Type 0 where
  pub results : List OwnResult
  pub rows : List Row
  pub alone : AreOwnRuns till 0 w.cells results
  pub merged : IsMerge (rows_in results) rows
  pub is : v ≡ after_window s w results rows

-- the crossings of the rows of each list, added up
abbrev pub crossings_of_all : Traffic → List (List Row) → List ℕ
crossings_of_all t [] = crossings t []
crossings_of_all t (rows ∷ lists) = added_each (crossings t rows) (crossings_of_all t lists)

-- ---- jobs

-- jobs from a place on, of `cut` cells each, the last one of fewer. There are no more than n
abbrev pub jobs_within : ℕ → ℕ → ℕ → ℕ → List OwnCell → List PlainJob
jobs_within n cut till place [] = []
jobs_within zero cut till place (q ∷ qs) = []
jobs_within (suc n) cut till place (q ∷ qs) =
    record { place = place; till = till; cells = take cut (q ∷ qs) }
    ∷ jobs_within n cut till (suc place) (drop cut (q ∷ qs))

-- jobs from a place on, of all these cells
abbrev pub jobs_from : ℕ → ℕ → ℕ → List OwnCell → List PlainJob
jobs_from cut till place qs = jobs_within (length qs) cut till place qs

-- the jobs of a window: its cells, as they are when it begins, in consecutive runs of `cut`
abbrev pub jobs_of : ℕ → ℕ → World → List PlainJob
jobs_of cut till w = jobs_from cut till 0 (cells_from 0 w.cells)

-- the results of the jobs' cells, job after job
abbrev pub AreJobRuns : List PlainJob → List (List OwnResult) → Type 0
AreJobRuns js rss = AllZip (λ (j : PlainJob) rs. AreRunsOf j.till j.cells rs) js rss

-- the rows of each job, one cell's after the other's
abbrev pub job_rows : List (List OwnResult) → List (List Row)
job_rows rss = map (λ (rs : List OwnResult). joined (rows_in rs)) rss

-- one of the cells meets, in its own run to an end, a step for which the packet count is used up
abbrev pub SomeMeetsFull : ℕ → List OwnCell → Type 0
SomeMeetsFull till qs = (j : ℕ) × (q : OwnCell) × (slice_get qs j ≡ Some q) × MeetsFull till q.member q.cell

-- so does a cell of one of the jobs
abbrev pub SomeJobMeetsFull : List PlainJob → Type 0
SomeJobMeetsFull [] = ⊥
SomeJobMeetsFull (j ∷ js) = SomeMeetsFull j.till j.cells ⊎ SomeJobMeetsFull js
