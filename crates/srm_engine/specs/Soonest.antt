-- How soon something is due in some cells.
use Rattle.std.specs.Prelude.{ℕ, List, [], ◌∷◌, map, Option, Some}
use Rattle.std.specs.Global.{Vec}
use Rattle.srm_member.specs.Record.{Record}
use Rattle.srm_cell.specs.declared.cell.Cell.{Cell}
use Rattle.srm_cell.specs.Setting.{Setting}
use Rattle.srm_cell.specs.Cells.{OwnCell, next_event, time_of}
use Rattle.srm_cell.specs.Jobs.{own_cells}
use Rattle.srm_engine.specs.declared.soonest.Soonest.{Soonest}
use Rattle.srm_model.specs.Windows.{least_with, promise_of}

-- when a cell has its next event
abbrev pub due : OwnCell → Option ℕ
due q = time_of (next_event q.member q.cell)

-- by when a packet of its member may arrive anywhere
abbrev pub promised : Setting → OwnCell → Option ℕ
promised s q = promise_of s q.member q.cell

-- the least of n and of the times that g gives
abbrev pub least_of : {A : Type 0} → (A → Option ℕ) → ℕ → List A → ℕ
least_of g n [] = n
least_of g n (x ∷ xs) = least_with (least_of g n xs) (g x)

-- how soon something is due in the cells, or else the run ends
abbrev pub soonest_of : Setting → List OwnCell → Soonest
soonest_of s qs = record {
  time = least_of due s.traffic.until qs;
  promise = least_of (promised s) s.traffic.until qs;
}

module _ {M : Type 0} where
  -- how soon something is due in each group, where f is what is seen of a box
  abbrev pub soon_in : (M → Record) → Setting → List (Vec (Cell M)) → List Soonest
  soon_in f s gs = map (λ (g : Vec (Cell M)). soonest_of s (own_cells f g.items)) gs

-- the least of n and of the next times of groups in which something is due so soon
abbrev pub first_time : ℕ → List Soonest → ℕ
first_time n xs = least_of (λ (x : Soonest). Some x.time) n xs

-- the least of n and of their promises
abbrev pub first_promise : ℕ → List Soonest → ℕ
first_promise n xs = least_of (λ (x : Soonest). Some x.promise) n xs
