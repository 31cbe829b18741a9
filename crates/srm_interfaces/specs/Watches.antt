-- What is kept of the rows of jobs.
use Rattle.std.specs.Prelude.{◌≡◌, ◌≤◌, ℕ, suc, List, [], ◌∷◌, ◌++◌, All, length, map, None, Result, Ok, Err}
use Rattle.std.specs.List.{range_with_len}
use Rattle.std.specs.Global.{Vec}
use Rattle.srm_net.specs.Network.{Network}
use Rattle.srm_scenario.specs.Plain.{PlainScenario}
use Rattle.srm_scenario.specs.declared.session.Session.{Session}
use Rattle.srm_member.specs.declared.row.Row.{Row}
use Rattle.srm_member.specs.Record.{Record}
use Rattle.srm_member.specs.ByMember.{rows_of_member}
use Rattle.srm_ledger.specs.Seats.{LedgerView, SeatView}
use Rattle.srm_cell.specs.declared.cell.Cell.{Cell}
use Rattle.srm_cell.specs.declared.job.Job.{Job}
use Rattle.srm_cell.specs.declared.job.Done as job
use Rattle.srm_cell.specs.declared.fault.CellFault.{CellFault}
use Rattle.srm_cell.specs.Cells.{before}
use Rattle.srm_cell.specs.Crossings.{crossings, joined, packets_of}
use Rattle.srm_cell.specs.Hearing.{IsSent, packets_in}
use Rattle.srm_cell.specs.Setting.{traffic_of}
use Rattle.srm_cell.specs.Views.{event_of}
use Rattle.srm_interfaces.specs.declared.fault.CrewFault.{CrewFault}
use Rattle.srm_interfaces.specs.declared.watched.WatchedJob.{WatchedJob}
use Rattle.srm_interfaces.specs.declared.watched.WatchedDone.{WatchedDone}
use Rattle.srm_interfaces.specs.Crews.{AdvanceEach, AreDone, HasGrown, Maps, MayMap, counted_in, rows_of}

-- of each cell this is kept: what was kept before, of whichever rows, and these rows
abbrev pub KeepEach : {K : Type 0} → (K → List Row → Type 0) → List K → List (List Row) → List K → Type 0
KeepEach keeps [] [] [] = Unit {0}
KeepEach keeps (a ∷ old) (rows ∷ more) (b ∷ new) =
    ((before : List Row) → keeps a before → keeps b (before ++ rows)) × KeepEach keeps old more new
KeepEach keeps old more new = ⊥

-- what was kept of each of some members was closed: this is kept of each then
abbrev pub IsClosed : {K : Type 0} → (List K → List K → Type 0) → List K → List K → Type 0
IsClosed closes old new = (length new ≡ length old) × closes old new

-- of each cell what was kept before took in these rows, and what was kept of all then was closed
pub record KeepClosed {K : Type 0} (keeps : K → List Row → Type 0) (closes : List K → List K → Type 0) (old : List K)
    (lists : List (List Row)) (new : List K) : Type 0 where
  pub full : List K
  pub kept : KeepEach keeps old lists full
  pub closed : IsClosed closes full new

-- this is kept of member m, of member m + 1 and so on: what is kept of each keeps its rows of these
abbrev pub KeepMembers : {K : Type 0} → (K → List Row → Type 0) → ℕ → List K → List Row → Type 0
KeepMembers keeps m [] rows = Unit {0}
KeepMembers keeps m (k ∷ ks) rows = keeps k (rows_of_member m rows) × KeepMembers keeps (suc m) ks rows

-- of each member is now kept: what was kept before, of whichever rows, and its rows of these
abbrev pub KeepOn : {K : Type 0} → (K → List Row → Type 0) → List K → List Row → List K → Type 0
KeepOn keeps old rows new =
    (before : List Row) → KeepMembers keeps 0 old before → KeepMembers keeps 0 new (before ++ rows)

-- a crew may lead the runs of a session, where this says that it may be called and what it serves
pub record MayLead {C : Type 0} (ready : C → Type 0) (serves : C → PlainScenario → Network → Type 0) (by : C)
    (of : Session) : Type 0 where
  pub called : ready by
  pub served : serves by of.scenario.now of.net.now

-- nothing is due in the cell before this tick
abbrev pub IsIdleTo : {M : Type 0} → (M → Record) → ℕ → Cell M → Type 0
IsIdleTo f tick c = before tick (event_of f c) ≡ None

module _ {M K : Type 0} where
  -- the job without what is kept
  abbrev pub job_in : WatchedJob M K → Job M
  job_in j = record { place = j.place; till = j.till; cells = j.cells }

  abbrev pub jobs_in : List (WatchedJob M K) → List (Job M)
  jobs_in js = map job_in js

  -- a watched job is sound: something is kept of each cell, and nothing is due in any before its `soon`
  pub record IsSoundJob (f : M → Record) (j : WatchedJob M K) : Type 0 where
    pub kept : length j.kept.items ≡ length j.cells.items
    pub soon : All (IsIdleTo f j.soon) j.cells.items

  -- a crew may be handed these jobs, which are sound, and stand in the order of their places
  pub record MayMapWatched (f : M → Record) (net : Network) (ledger : LedgerView) (seat : SeatView)
      (js : List (WatchedJob M K)) : Type 0 where
    pub may : MayMap f net ledger seat (jobs_in js)
    pub sound : All (IsSoundJob f) js
    pub places : map (λ j. j.place) js ≡ range_with_len 0 (length js)

  -- this is what is left of what is done of a job: where this was kept before, of the rows what is kept of them once
  -- they are taken in, and their packets
  pub record Watches (takes : List K → List (List Row) → List K → Type 0) (k : PlainScenario) (net : Network)
      (old : List K) (d : job.Done M) (e : WatchedDone M K) : Type 0 where
    pub place : e.place ≡ d.place
    pub cells : e.cells ≡ d.cells
    pub kept : takes old d.rows.items e.kept.items
    pub packets : packets_in e.sent.items ≡ packets_of (joined d.rows.items)
    pub sent : All (λ x. IsSent k net x) e.sent.items
    pub crossings : e.crossings ≡ d.crossings

  -- so of each job
  abbrev pub WatchEach : (List K → List (List Row) → List K → Type 0) → PlainScenario → Network → List (WatchedJob M K)
      → List (job.Done M) → List (WatchedDone M K) → Type 0
  WatchEach takes k net [] [] [] = Unit {0}
  WatchEach takes k net (j ∷ js) (d ∷ ds) (e ∷ es) =
      Watches takes k net j.kept.items d e × WatchEach takes k net js ds es
  WatchEach takes k net js ds es = ⊥

  -- what advancing watched jobs tells: what is left of what is done of them; or why not, as without a watch
  abbrev pub AdvanceWatched : (M → Record) → (List K → List (List Row) → List K → Type 0) → PlainScenario → Network
      → List (WatchedJob M K) → Result (Vec (WatchedDone M K)) CellFault → Type 0
  AdvanceWatched f takes k net js (Ok w) =
      (ds : List (job.Done M)) × AreDone f k net (jobs_in js) ds × WatchEach takes k net js ds w.items
  AdvanceWatched f takes k net js (Err e) = AdvanceEach f k net (jobs_in js) (Err e)

  -- what a crew's call tells: what is left of what is done of the jobs, and a seat grown by the crossings of all
  -- their rows; or why not, as a crew that keeps the rows
  abbrev pub MapsWatched : (M → Record) → (List K → List (List Row) → List K → Type 0) → PlainScenario → Network
      → SeatView → List (WatchedJob M K) → Result (Vec (WatchedDone M K) × SeatView) CrewFault → Type 0
  MapsWatched f takes k net seat js (Ok w) =
      (ds : List (job.Done M)) × AreDone f k net (jobs_in js) ds
      × HasGrown (counted_in (crossings (traffic_of k net) (rows_of ds))) seat w.1
      × WatchEach takes k net js ds w.0.items
  MapsWatched f takes k net seat js (Err e) = Maps f k net seat (jobs_in js) (Err e)
