-- The laws on which windows rest.
use Rattle.std.specs.Prelude.{◌≡◌, ◌≢◌, ◌⊎◌, ℕ, ◌+◌, ◌<◌, ◌≤◌, zero, suc, List, [], ◌∷◌, ◌++◌, Some, None}
use Rattle.std.specs.Prelude.{slice_get, length, drop, IsPermutation, Contains}
use Rattle.srm_net.specs.Keys.{key_cmp}
use Rattle.srm_net.specs.Orders.{ordered, Ascends, Rises, NoneBelow}
use Rattle.srm_net.specs.declared.key.Key.{Key}
use Rattle.srm_scenario.specs.Plain.{PlainScenario}
use Rattle.srm_scenario.specs.Accepted.{IsAccepted}
use Rattle.srm_member.specs.declared.row.Row.{Row}
use Rattle.srm_member.specs.ByMember.{rows_of_member}
use Rattle.srm_cell.specs.Setting.{Setting, IsFit, setting_of}
use Rattle.srm_cell.specs.Cells.{PlainCell, Event, Silent, pending_keys, AllDiffer, next_event, before, StepOutcome}
use Rattle.srm_cell.specs.Cells.{Idle, Full, Spent, Done}
use Rattle.srm_cell.specs.Crossings.{joined}
use Rattle.srm_cell.specs.OwnRuns.{own_end, own_rows, own_after, hear_rows}
use Rattle.srm_model.specs.World.{World, row_cmp, least_event, step, run, opening, IsReached, IsLast, RunMeetsFull}
use Rattle.srm_model.specs.Schedules.{scheduled, IsQuiet, HasResult, HasNoResult, IsSafe}
use Rattle.srm_model.specs.Windows.{IsWidth, promise_end, IsFirstQuiet}

-- the rows of v after those of w
abbrev pub new_rows : World → World → List Row
new_rows w v = drop (length w.trace) v.trace

-- v, with its rows after those of w in order of their keys
abbrev pub in_key_order : World → World → World
in_key_order w v = record v { trace = w.trace ++ ordered row_cmp (new_rows w v) }

-- ---- the sequential run

-- a run begins with no row
abbrev pub RunsBeginEmpty : Type 0
RunsBeginEmpty = (s : Setting) → IsReached s (opening s) × ((opening s).trace ≡ [])

-- a complete run has one last world, and then no step of the run meets a packet count that is used up
abbrev pub OutcomesAreOne : Type 0
OutcomesAreOne = (s : Setting) (w : World) → IsLast s w → ((v : World) → IsLast s v → w ≡ v) × ¬ RunMeetsFull s

-- the rows of each world of a sequential run begin those of the complete run
abbrev pub TracesAreFronts : Type 0
TracesAreFronts =
    (s : Setting) (w v : World) → IsReached s w → IsLast s v → (rest : List Row) × (v.trace ≡ w.trace ++ rest)

-- of each two worlds of a sequential run, the rows of one begin those of the other
abbrev pub TracesAreNested : Type 0
TracesAreNested =
    (s : Setting) (w v : World) → IsReached s w → IsReached s v
    → ((rest : List Row) × (v.trace ≡ w.trace ++ rest)) ⊎ ((rest : List Row) × (w.trace ≡ v.trace ++ rest))

-- the keys of the rows of a sequential run rise: no two events have one key
abbrev pub KeysRise : Type 0
KeysRise = (s : Setting) (w : World) → IsFit s → IsReached s w → Ascends row_cmp w.trace

-- the keys of all that is pending, of the members from i on
abbrev pub keys_from : ℕ → List PlainCell → List Key
keys_from i [] = []
keys_from i (c ∷ cs) = pending_keys i c ++ keys_from (suc i) cs

-- no two pending events of a world of the sequential run have one key
abbrev pub PendingKeysDiffer : Type 0
PendingKeysDiffer = (s : Setting) (w : World) → IsFit s → IsReached s w → AllDiffer (keys_from 0 w.cells)

-- what a step of the sequential run takes is pending, and nothing that is pending comes before it; where it takes
-- nothing, nothing is pending
abbrev pub StepsTakeTheLeast : Type 0
StepsTakeTheLeast =
    (s : Setting) (w : World) → IsFit s → IsReached s w
    → ((e : Event) → least_event 0 w.cells ≡ Some e
    → Contains (keys_from 0 w.cells) e.key × NoneBelow key_cmp e.key (keys_from 0 w.cells))
    × (least_event 0 w.cells ≡ None → keys_from 0 w.cells ≡ [])

-- every event that an event creates is later: what is pending after a step was pending before it, or has a later time
abbrev pub CreatedEventsAreLater : Type 0
CreatedEventsAreLater =
    (s : Setting) (w v : World) (e : Event) → IsFit s → IsReached s w
    → before s.traffic.until (least_event 0 w.cells) ≡ Some e → step s w ≡ Done v
    → (k : Key) → Contains (keys_from 0 v.cells) k → (e.key.time < k.time) ⊎ Contains (keys_from 0 w.cells) k

-- the sequential run ends: nothing is pending, or the packet count is used up
abbrev pub RunEnds : Type 0
RunEnds = (s : Setting) → IsFit s → (n : ℕ) × ((run s n (opening s) ≡ Idle) ⊎ (run s n (opening s) ≡ Full))

-- member m's own run to an end is finite
abbrev pub IsFinite : ℕ → World → ℕ → Type 0
IsFinite till w m =
    (c : PlainCell) → slice_get w.cells m ≡ Some c
    → (n : ℕ) × ((own_end till m n c ≡ Idle) ⊎ (own_end till m n c ≡ Full))

-- every own run to every end is finite
abbrev pub OwnRunsEnd : Type 0
OwnRunsEnd = (s : Setting) (w : World) (till : ℕ) → IsFit s → IsReached s w → (m : ℕ) → IsFinite till w m

-- no event is pending at a record that is gone: neither the sequential run nor an own run meets one
abbrev pub NeverSpent : Type 0
NeverSpent =
    (s : Setting) (w : World) → IsFit s → IsReached s w
    → ((n : ℕ) → run s n w ≢ Spent)
    × ((till m n : ℕ) (c : PlainCell) → slice_get w.cells m ≡ Some c → own_end till m n c ≢ Spent)

-- ---- schedules

-- every complete schedule to a safe end comes, its rows in order, to the world to which the sequential run comes
abbrev pub SchedulesAgree : Type 0
SchedulesAgree =
    (s : Setting) (w : World) (till : ℕ) → IsFit s → IsReached s w → till ≤ s.traffic.until → IsSafe s till w
    → ((m : ℕ) → HasResult till w m)
    → (v : World) × IsFirstQuiet s till w v
    × ((ms : List ℕ) × (scheduled s till ms w ≡ Done v))
    × ((ms : List ℕ) (u : World) → scheduled s till ms w ≡ Done u → IsQuiet till u → in_key_order w u ≡ v)

-- a refused step: the packet count is used up, or the record is gone
abbrev pub IsRefusal : {A : Type 0} → StepOutcome A → Type 0
IsRefusal Idle = ⊥
IsRefusal Full = Unit {0}
IsRefusal Spent = Unit {0}
IsRefusal (Done v) = ⊥

-- where every own run to a safe end has a result, no schedule to that end meets a refused step
abbrev pub SchedulesAreAnswered : Type 0
SchedulesAreAnswered =
    (s : Setting) (w : World) (till : ℕ) → IsSafe s till w → ((m : ℕ) → HasResult till w m)
    → (ms : List ℕ) → ¬ IsRefusal (scheduled s till ms w)

-- where an own run to a safe end has no result, the sequential run meets a step that has none, from this world and from
-- the beginning
abbrev pub RefusalsAreMet : Type 0
RefusalsAreMet =
    (s : Setting) (w : World) (till : ℕ) → IsFit s → IsReached s w → till ≤ s.traffic.until → IsSafe s till w
    → (m : ℕ) → HasNoResult till w m → ((n : ℕ) × (run s n w ≡ Full)) × RunMeetsFull s

-- after a complete schedule to a safe end each cell is what its own run alone leaves, and then has heard the packets of
-- all rows; and its member's rows are those of its own run
abbrev pub CellsRunAlone : Type 0
CellsRunAlone =
    (s : Setting) (w : World) (till : ℕ) → IsSafe s till w
    → (ms : List ℕ) (u : World) → scheduled s till ms w ≡ Done u → IsQuiet till u
    → (m : ℕ) (c : PlainCell) → slice_get w.cells m ≡ Some c
    → (n : ℕ) × (own_end till m n c ≡ Idle)
    × (rows_of_member m (new_rows w u) ≡ own_rows till m n c)
    × (slice_get u.cells m ≡ Some (hear_rows s.traffic m (new_rows w u) (own_after till m n c)))

-- ---- windows

-- an end that is no further from the least pending time than any two members are apart is safe
abbrev pub WindowsAreSafe : Type 0
WindowsAreSafe =
    (s : Setting) (w : World) (e : Event) (width till : ℕ) → IsFit s → IsReached s w
    → before s.traffic.until (least_event 0 w.cells) ≡ Some e
    → ((a b : ℕ) → a < s.traffic.members → b < s.traffic.members → a ≢ b → width ≤ s.traffic.distance a b)
    → till ≤ e.key.time + width → IsSafe s till w

-- an end that the next event of no member that may send, with the way from it to any other member, falls short of is
-- safe
abbrev pub PromisesAreSafe : Type 0
PromisesAreSafe =
    (s : Setting) (w : World) (till : ℕ) → IsFit s → IsReached s w
    → ((m : ℕ) (c : PlainCell) (e : Event) → slice_get w.cells m ≡ Some c → next_event m c ≡ Some e
    → Silent c.holds ⊎ ((b : ℕ) → b < s.traffic.members → b ≢ m → till ≤ e.key.time + s.traffic.distance m b))
    → IsSafe s till w

-- so is one that is no further from the least pending time than the least link delay, and every end where there is no
-- link
abbrev pub LinkDelaysAreSafe : Type 0
LinkDelaysAreSafe =
    (p : PlainScenario) (seed : ℕ) → IsAccepted p
    → (w : World) (e : Event) (width till : ℕ) → IsReached (setting_of p seed) w
    → before p.until (least_event 0 w.cells) ≡ Some e → IsWidth p width
    → till ≤ e.key.time + width → IsSafe (setting_of p seed) till w

-- the end of a promise window is safe, and later than the least pending time
abbrev pub PromiseEndsAreSafe : Type 0
PromiseEndsAreSafe =
    (s : Setting) (w : World) → IsFit s → IsReached s w
    → IsSafe s (promise_end s w) w
    × ((e : Event) → before s.traffic.until (least_event 0 w.cells) ≡ Some e → e.key.time < promise_end s w)

-- ---- merging

-- the rows of member i, of member i + 1, and so on, for n members
abbrev pub by_member : ℕ → ℕ → List Row → List (List Row)
by_member i zero rows = []
by_member i (suc n) rows = rows_of_member i rows ∷ by_member (suc i) n rows

-- the members' rows of a part of the sequential run, merged in order of their keys, are the rows of that part
abbrev pub MergesAgree : Type 0
MergesAgree =
    (s : Setting) (w v : World) → IsFit s → IsReached s w → (n : ℕ) → run s n w ≡ Done v
    → (rows : List Row) → Rises row_cmp rows
    → IsPermutation (joined (by_member 0 s.traffic.members (new_rows w v))) rows
    → new_rows w v ≡ rows
