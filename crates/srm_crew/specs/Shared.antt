-- Workers that share a bag of items and a seat: what they tell, where R says what may come of an item.
use Rattle.std.specs.Prelude.{◌≡◌, ◌≢◌, ◌⊎◌, ◌<◌, ◌≤◌, ◌+◌, ◌++◌, ◌∷◌, ℕ, List, [], length, vec_capacity, slice_get}
use Rattle.std.specs.Prelude.{Some, Result, Ok, Err, nat_lt, ◌&&◌, if◌then◌else◌}
use Rattle.std.specs.List.{AllZip}
use Rattle.std.specs.Global.{Vec}
use Rattle.srm_ledger.specs.Seats.{SeatView, both_seats}
use Rattle.srm_ledger.specs.Tally.{AllFit, SomePast}
use Rattle.srm_cell.specs.declared.fault.CellFault.{CellFault}
use Rattle.srm_cell.specs.declared.fault.CellFault.TheVariants as cell
use Rattle.srm_interfaces.specs.declared.fault.CrewFault.{CrewFault}
use Rattle.srm_interfaces.specs.declared.fault.CrewFault.TheVariants as fault
use Rattle.srm_crew.specs.declared.bag_fault.SplitFault.{SplitFault}
use Rattle.srm_crew.specs.declared.bag_fault.SplitFault.TheVariants as split
use Rattle.srm_crew.specs.Indices.{EachAtMostOnce}
use Rattle.srm_crew.specs.Passes.{PassView, both_passes, TookEachAtMostOnce}
use Rattle.srm_interfaces.specs.Crews.{HasGrown, IsPast, counted_in}
use Rattle.srm_interfaces.specs.Faults.{crew_fault_of}

-- P holds of the item at an index of the list
abbrev pub HoldsAt : {T : Type 0} → (T → Type 0) → List T → ℕ → Type 0
HoldsAt {T} P items index = (x : T) × (slice_get items index ≡ Some x) × P x

-- the numbers at a word of all results, added up
abbrev pub sum_of : {D : Type 0} → (D → List ℕ) → ℕ → List D → ℕ
sum_of numbers k [] = 0
sum_of numbers k (d ∷ ds) = counted_in (numbers d) k + sum_of numbers k ds

-- what is counted in a word, if it is one of n words after word `at`
abbrev pub counted_from : ℕ → ℕ → List ℕ → ℕ → ℕ
counted_from at n numbers k = if nat_lt at k && nat_lt k (at + n + 1) then counted_in numbers k else 0

-- the pass, with a list
abbrev pub with_list : {T : Type 0} → PassView T → List ℕ → PassView T
with_list p taken = record { bag = p.bag; weight = p.weight; put = p.put; taken = taken }

-- each of these results stands at its index of the list
abbrev pub InOrder : {D : Type 0} → List ℕ → List D → List D → Type 0
InOrder indices results all = (length all ≡ length results) × AllZip (λ p d. slice_get all p ≡ Some d) indices results

-- why a pass and a seat of these weights are not halved: one of them has weight 1, or memory was refused
abbrev pub MayNotHalve : ℕ → ℕ → SplitFault → Type 0
MayNotHalve pass seat split.TooManySeats = (pass ≡ 1) ⊎ (seat ≡ 1)
MayNotHalve pass seat split.NoMemory = pass ≢ 1

module _ {D : Type 0} where
  -- what adding the numbers of all that was given tells: all of it, with a seat that has grown by them; or the refusal
  -- of the cells; or else, that a share would be past its bound
  abbrev pub Settles : (D → List ℕ) → SeatView → Result (Vec D) CellFault → Result (Vec D × SeatView) CrewFault → Type 0
  Settles numbers seat (Ok all) (Ok r) = (r.0 ≡ all) × HasGrown (λ k. sum_of numbers k all.items) seat r.1
  Settles numbers seat (Ok all) (Err fault.ShareFull) = IsPast (λ k. sum_of numbers k all.items) seat
  Settles numbers seat (Err e) (Err f) = f ≡ crew_fault_of e
  Settles numbers seat _ _ = ⊥

  -- what one item more tells, of which P says what may come: a result more, and a seat that has grown by its numbers.
  -- Memory is refused to the work, or else to a list of results that is full, and then the seat has grown
  abbrev pub TellsItem : (Result D CellFault → Type 0) → (D → List ℕ) → SeatView → Vec D → Result (Unit {0}) CrewFault
      → SeatView → Vec D → Type 0
  TellsItem P numbers seat results (Ok u) new_seat new_results =
      (d : D) × P (Ok d) × (new_results.items ≡ results.items ++ d ∷ [])
      × HasGrown (counted_in (numbers d)) seat new_seat
  TellsItem P numbers seat results (Err fault.NoMemory) new_seat new_results =
      P (Err cell.NoMemory)
      ⊎ ((d : D) × P (Ok d) × HasGrown (counted_in (numbers d)) seat new_seat
      × (vec_capacity results ≤ length results.items))
  TellsItem P numbers seat results (Err fault.Spent) new_seat new_results = P (Err cell.Spent)
  TellsItem P numbers seat results (Err fault.CountFull) new_seat new_results = P (Err cell.CountFull)
  TellsItem P numbers seat results (Err fault.ShareFull) new_seat new_results =
      (d : D) × P (Ok d) × IsPast (counted_in (numbers d)) seat

module _ {T D : Type 0} where
  -- these may come of the items at these indices
  abbrev pub ComeOf : (T → Result D CellFault → Type 0) → List T → List ℕ → List D → Type 0
  ComeOf R items indices results = AllZip (λ p d. HoldsAt (λ x. R x (Ok d)) items p) indices results

  -- why workers stop: nothing comes of an item; or the results of items, each taken once, are too many for the seat
  abbrev pub Stops : (T → Result D CellFault → Type 0) → (D → List ℕ) → List T → List ℕ → SeatView → CrewFault → Type 0
  Stops R numbers items taken seat fault.NoMemory = Unit {0}
  Stops R numbers items taken seat fault.Spent = (index : ℕ) × HoldsAt (λ x. R x (Err cell.Spent)) items index
  Stops R numbers items taken seat fault.CountFull = (index : ℕ) × HoldsAt (λ x. R x (Err cell.CountFull)) items index
  Stops R numbers items taken seat fault.ShareFull =
      (indices : List ℕ) × (results : List D) × EachAtMostOnce (taken ++ indices) (length items)
      × ComeOf R items indices results × IsPast (λ k. sum_of numbers k results) seat

  -- more items were taken, what came of them stands behind the other results, and the seat has grown by their numbers
  pub record HasWorked (R : T → Result D CellFault → Type 0) (numbers : D → List ℕ) (pass : PassView T)
      (seat : SeatView) (results : List D) (new_pass : PassView T) (new_seat : SeatView) (new_results : List D)
      : Type 0 where
    pub indices : List ℕ
    pub more : List D
    pub taken : new_pass ≡ with_list pass (pass.taken ++ indices)
    pub gave : new_results ≡ results ++ more
    pub come : ComeOf R pass.put indices more
    pub grown : HasGrown (λ k. sum_of numbers k more) seat new_seat

  -- what workers tell
  abbrev pub TellsWork : (T → Result D CellFault → Type 0) → (D → List ℕ) → PassView T → SeatView → List D
      → Result (PassView T × SeatView × Vec D) CrewFault → Type 0
  TellsWork R numbers pass seat results (Ok v) = HasWorked R numbers pass seat results v.0 v.1 v.2.items
  TellsWork R numbers pass seat results (Err e) = Stops R numbers pass.put pass.taken seat e

  -- what work on every item tells: what came of each, in order, and a seat that has grown by the numbers of all
  abbrev pub TellsAll : (T → Result D CellFault → Type 0) → (D → List ℕ) → List T → SeatView
      → Result (Vec D × SeatView) CrewFault → Type 0
  TellsAll R numbers items seat (Ok v) = AllZip (λ x d. R x (Ok d)) items v.0.items
      × HasGrown (λ k. sum_of numbers k v.0.items) seat v.1
  TellsAll R numbers items seat (Err e) = Stops R numbers items [] seat e

  -- what comes of two workers: both passes and seats in one, and the results of the first before those of the second.
  -- Memory is refused only where both seats fit into one, and the first list of results has no room for the second
  abbrev pub TellsBoth : Result (PassView T × SeatView × Vec D) CrewFault
      → Result (PassView T × SeatView × Vec D) CrewFault → Result (PassView T × SeatView × Vec D) CrewFault → Type 0
  TellsBoth (Err e) b r = r ≡ Err e
  TellsBoth (Ok a) (Err e) r = r ≡ Err e
  TellsBoth (Ok a) (Ok b) (Ok r) = (r.0 ≡ both_passes a.0 b.0) × (r.1 ≡ both_seats a.1 b.1)
      × (r.2.items ≡ a.2.items ++ b.2.items)
  TellsBoth (Ok a) (Ok b) (Err fault.NoMemory) = AllFit a.1.shares b.1.shares
      × (vec_capacity a.2 < length a.2.items + length b.2.items)
  TellsBoth (Ok a) (Ok b) (Err fault.ShareFull) = TookEachAtMostOnce (both_passes a.0 b.0)
      × SomePast a.1.shares b.1.shares
  TellsBoth (Ok a) (Ok b) (Err e) = ⊥
