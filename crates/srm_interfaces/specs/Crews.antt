-- What crews are handed, and what they tell.
use Rattle.std.specs.Prelude.{◌≡◌, ◌⊎◌, ◌<◌, ◌≤◌, ◌+◌, ◌^◌, ℕ, List, [], ◌∷◌, ◌++◌, All, length, map, slice_index}
use Rattle.std.specs.Prelude.{Result, Ok, Err}
use Rattle.std.specs.List.{AllZip, Contains}
use Rattle.std.specs.Global.{Vec}
use Rattle.srm_net.specs.Limits.{most_nodes}
use Rattle.srm_net.specs.Network.{Network}
use Rattle.srm_scenario.specs.Plain.{PlainScenario}
use Rattle.srm_member.specs.declared.row.Row.{Row}
use Rattle.srm_member.specs.Record.{Record}
use Rattle.srm_ledger.specs.Seats.{LedgerView, SeatView}
use Rattle.srm_cell.specs.declared.job.Job.{Job}
use Rattle.srm_cell.specs.declared.job.Done as job
use Rattle.srm_cell.specs.declared.fault.CellFault.{CellFault}
use Rattle.srm_cell.specs.declared.fault.CellFault.TheVariants as cell
use Rattle.srm_cell.specs.Setting.{traffic_of}
use Rattle.srm_cell.specs.Cells.{OwnCell, PlainCell, StepOutcome, Full, Spent, Stepped}
use Rattle.srm_cell.specs.OwnRuns.{IsOwnRun}
use Rattle.srm_cell.specs.Crossings.{joined, crossings}
use Rattle.srm_cell.specs.Jobs.{MayAdvance, PlainJob, FirstEnds, IsDone, plain_job}
use Rattle.srm_interfaces.specs.declared.fault.CrewFault.{CrewFault}
use Rattle.srm_interfaces.specs.declared.fault.CrewFault.TheVariants as fault

-- ---- results

-- one result of work on each job: what they gave, in order, or, besides that memory ran out, the fault of one of them
abbrev pub GathersEach : {J D : Type 0} → (J → Result D CellFault → Type 0) → List J → Result (Vec D) CellFault → Type 0
GathersEach R js (Ok v) = AllZip (λ j d. R j (Ok d)) js v.items
GathersEach R js (Err cell.NoMemory) = Unit {0}
GathersEach {D = D} R js (Err e) = (rs : List (Result D CellFault)) × AllZip R js rs × Contains rs (Err e)

-- ---- seats

-- the seat is as it was, but that its share of each word has grown by a number
pub record HasGrown (by : ℕ → ℕ) (old new : SeatView) : Type 0 where
  pub ledger : new.ledger ≡ old.ledger
  pub weight : new.weight ≡ old.weight
  pub shares : (k : ℕ) → slice_index new.shares k ≡ slice_index old.shares k + by k
  pub seen : new.seen ≡ old.seen

-- some share, grown by its number, would pass 2^47
abbrev pub IsPast : (ℕ → ℕ) → SeatView → Type 0
IsPast by old = (k : ℕ) × (2 ^ 47 < slice_index old.shares k + by k)

-- what is counted in each word: word 0 is spare, and the others are the five numbers of each link in turn
abbrev pub counted_in : List ℕ → ℕ → ℕ
counted_in numbers k = slice_index (0 ∷ numbers) k

-- ---- jobs

-- in one of the jobs the own runs, taken one after the other, first end with this
abbrev pub AnyEnds : StepOutcome Stepped → List PlainJob → Type 0
AnyEnds o [] = ⊥
AnyEnds o (p ∷ ps) = FirstEnds o p.till p.cells ⊎ AnyEnds o ps

-- the rows of the cells' own runs
abbrev pub AreRowsOf : ℕ → List OwnCell → List Row → Type 0
AreRowsOf till [] rows = rows ≡ []
AreRowsOf till (q ∷ qs) rows =
    (own : List Row) × (more : List Row) × (d : PlainCell) × IsOwnRun till q.member q.cell own d
    × (rows ≡ own ++ more) × AreRowsOf till qs more

-- the rows of some of the jobs
abbrev pub AreRowsOfSome : List PlainJob → List Row → Type 0
AreRowsOfSome [] rows = rows ≡ []
AreRowsOfSome (p ∷ ps) rows =
    AreRowsOfSome ps rows
    ⊎ ((own : List Row) × (more : List Row) × AreRowsOf p.till p.cells own × (rows ≡ own ++ more)
    × AreRowsOfSome ps more)

module _ {M : Type 0} where
  -- the jobs as they are seen, where f is what is seen of a box
  abbrev pub plain_jobs : (M → Record) → List (Job M) → List PlainJob
  plain_jobs f js = map (plain_job f) js

  -- a crew may be handed these jobs, in a run on this network, with this seat of this ledger: each may be advanced, and
  -- they are few
  pub record MayMap (f : M → Record) (net : Network) (ledger : LedgerView) (seat : SeatView) (js : List (Job M))
      : Type 0 where
    pub jobs : All (λ j. MayAdvance f (length net.hosts) j) js
    pub many : length js ≤ most_nodes
    pub links : ledger.links ≡ length net.links
    pub of_ledger : seat.ledger ≡ ledger.name

  -- the rows of all that is done
  abbrev pub rows_of : List (job.Done M) → List Row
  rows_of [] = []
  rows_of (d ∷ ds) = joined d.rows.items ++ rows_of ds

  -- the numbers at a word of the crossings of all that is done, added up
  abbrev pub sum_at : ℕ → List (job.Done M) → ℕ
  sum_at k [] = 0
  sum_at k (d ∷ ds) = counted_in d.crossings k + sum_at k ds

  -- this is done of the jobs
  abbrev pub AreDone : (M → Record) → PlainScenario → Network → List (Job M) → List (job.Done M) → Type 0
  AreDone f k net js ds = AllZip (λ j d. IsDone f (traffic_of k net) j d) js ds

  -- what advancing each job tells
  abbrev pub AdvanceEach : (M → Record) → PlainScenario → Network → List (Job M)
      → Result (Vec (job.Done M)) CellFault → Type 0
  AdvanceEach f k net js (Ok v) = AreDone f k net js v.items
  AdvanceEach f k net js (Err cell.NoMemory) = Unit {0}
  AdvanceEach f k net js (Err cell.Spent) = AnyEnds Spent (plain_jobs f js)
  AdvanceEach f k net js (Err cell.CountFull) = AnyEnds Full (plain_jobs f js)

  -- what a crew's call tells: what is done of each job, and a seat grown by the crossings of all rows; or why not. A
  -- share is full where the crossings of some of the jobs' rows are too many for it
  abbrev pub Maps : (M → Record) → PlainScenario → Network → SeatView → List (Job M)
      → Result (Vec (job.Done M) × SeatView) CrewFault → Type 0
  Maps f k net seat js (Ok v) =
      AreDone f k net js v.0.items × HasGrown (counted_in (crossings (traffic_of k net) (rows_of v.0.items))) seat v.1
  Maps f k net seat js (Err fault.NoMemory) = Unit {0}
  Maps f k net seat js (Err fault.Spent) = AnyEnds Spent (plain_jobs f js)
  Maps f k net seat js (Err fault.ShareFull) =
      (rows : List Row) × AreRowsOfSome (plain_jobs f js) rows
      × IsPast (counted_in (crossings (traffic_of k net) rows)) seat
  Maps f k net seat js (Err fault.CountFull) = AnyEnds Full (plain_jobs f js)
