-- The laws of windows.
use Rattle.std.specs.Prelude.{◌≡◌, ◌⊎◌, ℕ, suc, ◌*◌, ◌<◌, ◌≤◌, List, [], ◌∷◌, ◌++◌, Some, All, length, map, take, drop}
use Rattle.std.specs.Prelude.{slice_get, IsPermutation, IsSorted}
use Rattle.srm_scenario.specs.Plain.{PlainScenario}
use Rattle.srm_scenario.specs.Accepted.{IsAccepted}
use Rattle.srm_member.specs.declared.row.Row.{Row}
use Rattle.srm_cell.specs.Setting.{Setting, IsFit, setting_of}
use Rattle.srm_cell.specs.Cells.{PlainCell, Event}
use Rattle.srm_cell.specs.Cells.{OwnCell}
use Rattle.srm_cell.specs.Jobs.{PlainJob}
use Rattle.srm_cell.specs.Crossings.{crossings, added_each, joined}
use Rattle.srm_model.specs.World.{World, row_cmp, IsReached, IsLast, RunMeetsFull}
use Rattle.srm_model.specs.Schedules.{IsSafe, HasResult, HasNoResult}
use Rattle.srm_model.specs.Windows.{IsWidth, promise_end, IsFirstQuiet}
use Rattle.srm_model.specs.Hearing.{all_hear}
use Rattle.srm_model.specs.WindowRuns.{OwnResult, cells_from, AreOwnRuns, rows_in, cells_in, IsMerge, each_hears}
use Rattle.srm_model.specs.WindowRuns.{StandAlike, AreNewInTurn, IsWindow, crossings_of_all, jobs_from, jobs_of}
use Rattle.srm_model.specs.WindowRuns.{AreJobRuns, job_rows, SomeJobMeetsFull}
use Rattle.srm_model.specs.WindowChains.{IsNext, IsOver, start_of, IsEndRule, width_rule, least_width, AreWindows}
use Rattle.srm_model.specs.WindowChains.{window_jobs}

-- ---- one window

-- a window to a safe end leaves the first world of the sequential run with no event before the end pending
abbrev pub WindowsAgree : Type 0
WindowsAgree =
    (s : Setting) (w v : World) (till : ℕ) → IsFit s → IsReached s w → till ≤ s.traffic.until → IsSafe s till w
    → IsWindow s till w v → IsFirstQuiet s till w v × IsReached s v

-- where every own run has a result there is a window
abbrev pub WindowsAreThere : Type 0
WindowsAreThere =
    (s : Setting) (w : World) (till : ℕ) → ((m : ℕ) → HasResult till w m) → (v : World) × IsWindow s till w v

-- the rows of each cell of a window to a safe end are in order of their keys
abbrev pub OwnRowsAreSorted : Type 0
OwnRowsAreSorted =
    (s : Setting) (w : World) (till : ℕ) → IsFit s → IsReached s w → till ≤ s.traffic.until → IsSafe s till w
    → (results : List OwnResult) → AreOwnRuns till 0 w.cells results → All (IsSorted row_cmp) (rows_in results)

-- each member's rows stand, cell after cell, in the order in which they stand in a merge
abbrev pub MembersStandAlike : Type 0
MembersStandAlike =
    (s : Setting) (w : World) (till : ℕ) → IsFit s → IsReached s w → till ≤ s.traffic.until → IsSafe s till w
    → (results : List OwnResult) → AreOwnRuns till 0 w.cells results → StandAlike (rows_in results)

-- the packets of the rows may be heard one after the other: after each row all cells hear its packet
abbrev pub PacketsAreHeardInTurn : Type 0
PacketsAreHeardInTurn =
    (s : Setting) (cs : List PlainCell)
    → (each_hears s.traffic 0 [] cs ≡ cs)
    × ((rows : List Row) (r : Row) → each_hears s.traffic 0 (rows ++ r ∷ []) cs
    ≡ all_hear s.traffic r.sent (each_hears s.traffic 0 rows cs))

-- and then each packet is new to every cell
abbrev pub WindowPacketsAreNew : Type 0
WindowPacketsAreNew =
    (s : Setting) (w : World) (till : ℕ) → IsFit s → IsReached s w → till ≤ s.traffic.until → IsSafe s till w
    → (results : List OwnResult) (rows : List Row) → AreOwnRuns till 0 w.cells results → IsMerge (rows_in results) rows
    → AreNewInTurn s.traffic rows (cells_in results)

-- the packets of the rows of all own runs may be heard in any order: each is then new to every cell, and the cells come
-- out the same
abbrev pub PacketsAreHeardInAnyOrder : Type 0
PacketsAreHeardInAnyOrder =
    (s : Setting) (w : World) (till : ℕ) → IsFit s → IsReached s w → till ≤ s.traffic.until → IsSafe s till w
    → (results : List OwnResult) (rows : List Row) → AreOwnRuns till 0 w.cells results
    → IsPermutation (joined (rows_in results)) rows
    → AreNewInTurn s.traffic rows (cells_in results)
    × ((others : List Row) → IsPermutation (joined (rows_in results)) others
    → each_hears s.traffic 0 rows (cells_in results) ≡ each_hears s.traffic 0 others (cells_in results))

-- ---- jobs

-- the jobs of some cells are a first one, of the first `cut` of them, and those of the rest
abbrev pub JobsAreRuns : Type 0
JobsAreRuns =
    (cut till place : ℕ) → 0 < cut
    → (jobs_from cut till place [] ≡ [])
    × ((q : OwnCell) (qs : List OwnCell) → jobs_from cut till place (q ∷ qs)
    ≡ record { place = place; till = till; cells = take cut (q ∷ qs) }
    ∷ jobs_from cut till (suc place) (drop cut (q ∷ qs)))

-- the jobs of a window are no more than its cells; job k has place k, this end, and the cells from k times `cut` on, at
-- most `cut` of them, each with its member; and all jobs together have each cell once, in order
abbrev pub JobsAreInPlace : Type 0
JobsAreInPlace =
    (cut till : ℕ) (w : World) → 0 < cut
    → (length (jobs_of cut till w) ≤ length w.cells)
    × ((k : ℕ) (j : PlainJob) → slice_get (jobs_of cut till w) k ≡ Some j → j
    ≡ record { place = k; till = till; cells = take cut (drop (k * cut) (cells_from 0 w.cells)) })
    × (joined (map (λ (j : PlainJob). j.cells) (jobs_of cut till w)) ≡ cells_from 0 w.cells)

-- the results of a window's jobs, job after job, are those of all its cells
abbrev pub JobsRunAll : Type 0
JobsRunAll =
    (w : World) (cut till : ℕ) (results : List (List OwnResult)) → 0 < cut → AreJobRuns (jobs_of cut till w) results
    → AreOwnRuns till 0 w.cells (joined results)

-- where a cell of a job meets a step for which the packet count is used up, a member has no result
abbrev pub JobsRefuse : Type 0
JobsRefuse =
    (w : World) (cut till : ℕ) → SomeJobMeetsFull (jobs_of cut till w) → (m : ℕ) × HasNoResult till w m

-- crossings do not depend on the order of the rows
abbrev pub CrossingsKeep : Type 0
CrossingsKeep = (s : Setting) (qs rs : List Row) → IsPermutation qs rs → crossings s.traffic qs ≡ crossings s.traffic rs

-- the crossings so far and those of all jobs, added, are those of the rows so far and the merged rows
abbrev pub CrossingsAreTotals : Type 0
CrossingsAreTotals =
    (s : Setting) (trace rows : List Row) (results : List (List OwnResult)) → IsMerge (rows_in (joined results)) rows
    → added_each (crossings s.traffic trace) (crossings_of_all s.traffic (job_rows results))
    ≡ crossings s.traffic (trace ++ rows)

-- ---- ends

-- a width from 1 to the least link delay gives a rule; where there is no link, any width from 1 does
abbrev pub WidthsAreRules : Type 0
WidthsAreRules =
    (p : PlainScenario) (seed width : ℕ) → IsAccepted p → 0 < width → IsWidth p width
    → IsEndRule (setting_of p seed) (width_rule (setting_of p seed) width)

-- so does the widest width
abbrev pub LeastIsARule : Type 0
LeastIsARule =
    (p : PlainScenario) (seed : ℕ) → IsAccepted p
    → IsEndRule (setting_of p seed) (width_rule (setting_of p seed) (least_width p))

-- so do promises
abbrev pub PromisesAreARule : Type 0
PromisesAreARule = (s : Setting) → IsFit s → IsEndRule s (promise_end s)

-- ---- windows one after the other

-- where the least pending time is before `until` an event is next; else nothing is pending
abbrev pub StartsTell : Type 0
StartsTell =
    (s : Setting) (w : World)
    → (start_of s w < s.traffic.until → (e : Event) × IsNext s w e × (e.key.time ≡ start_of s w))
    × (s.traffic.until ≤ start_of s w → IsOver s w)

-- each window's world is one of the sequential run; where nothing is pending it is the last
abbrev pub WindowsAreReached : Type 0
WindowsAreReached =
    (s : Setting) (rule : World → ℕ) (begins : List World) (w : World) → AreWindows s rule begins w
    → IsReached s w × (IsOver s w → IsLast s w)

-- where something is pending, a window to the rule's end is the next, and leaves a world with a later least pending
-- time
abbrev pub WindowsFollow : Type 0
WindowsFollow =
    (s : Setting) (rule : World → ℕ) (begins : List World) (w v : World) (e : Event) → IsFit s → IsEndRule s rule
    → AreWindows s rule begins w → IsNext s w e → IsWindow s (rule w) w v
    → AreWindows s rule (begins ++ w ∷ []) v × (start_of s w < start_of s v)

-- each window is one call: the list of its jobs
abbrev pub CallsFollow : Type 0
CallsFollow =
    (rule : World → ℕ) (cut : ℕ)
    → (window_jobs rule cut [] ≡ [])
    × ((begins : List World) (w : World) → window_jobs rule cut (begins ++ w ∷ [])
    ≡ window_jobs rule cut begins ++ jobs_of cut (rule w) w ∷ [])

-- where an own run to the rule's end has no result, the sequential run meets a step for which the packet count is used
-- up
abbrev pub RefusedWindowsMeetFull : Type 0
RefusedWindowsMeetFull =
    (s : Setting) (rule : World → ℕ) (begins : List World) (w : World) (e : Event) → IsFit s → IsEndRule s rule
    → AreWindows s rule begins w → IsNext s w e → (m : ℕ) → HasNoResult (rule w) w m → RunMeetsFull s

-- the rows up to a window are a part from the beginning of those of a complete run
abbrev pub WindowTracesArePrefixes : Type 0
WindowTracesArePrefixes =
    (s : Setting) (rule : World → ℕ) (begins : List World) (w v : World) → IsFit s
    → AreWindows s rule begins w → IsLast s v → (rest : List Row) × (v.trace ≡ w.trace ++ rest)

-- a run has one list of windows
abbrev pub WindowsAreOne : Type 0
WindowsAreOne =
    (s : Setting) (rule : World → ℕ) (begins starts : List World) (w v : World)
    → AreWindows s rule begins w → IsOver s w → AreWindows s rule starts v → IsOver s v → (begins ≡ starts) × (w ≡ v)

-- the windows of a run come to its last world, or the packet count is used up
abbrev pub WindowsEnd : Type 0
WindowsEnd =
    (s : Setting) (rule : World → ℕ) → IsFit s → IsEndRule s rule
    → ((begins : List World) × (w : World) × AreWindows s rule begins w × IsLast s w) ⊎ RunMeetsFull s
