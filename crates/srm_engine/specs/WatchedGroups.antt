-- The jobs of a window whose rows are watched, and what comes of them.
use Rattle.std.specs.Prelude.{ℕ, suc, List, [], ◌∷◌, map}
use Rattle.std.specs.Global.{Vec}
use Rattle.std.proofs.Math.ListN.{get_or}
use Rattle.srm_cell.specs.declared.cell.Cell.{Cell}
use Rattle.srm_cell.specs.declared.sent.Sent.{Sent}
use Rattle.srm_engine.specs.declared.soonest.Soonest.{Soonest}
use Rattle.srm_interfaces.specs.declared.watched.WatchedJob.{WatchedJob}
use Rattle.srm_interfaces.specs.declared.watched.WatchedDone.{WatchedDone}

-- how soon something is due in the group at a place
abbrev pub time_at : List Soonest → ℕ → ℕ
time_at xs n = (get_or xs n (record { time = 0; promise = 0 })).time

module _ {M K : Type 0} where
  -- the jobs that have these groups, from a place on, with what is kept of the cells of each, where something is due in
  -- each so soon
  abbrev pub watched_with : (ℕ → ℕ) → ℕ → ℕ → List (Vec (Cell M)) → List (Vec K) → List (WatchedJob M K)
  watched_with soon till place [] ks = []
  watched_with soon till place (g ∷ gs) [] = []
  watched_with soon till place (g ∷ gs) (k ∷ ks) =
      record { place = place; till = till; soon = soon place; cells = g; kept = k }
      ∷ watched_with soon till (suc place) gs ks

  -- the groups of what is done
  abbrev pub groups_in : List (WatchedDone M K) → List (Vec (Cell M))
  groups_in es = map (λ (e : WatchedDone M K). e.cells) es

  -- what is kept of the cells of each
  abbrev pub kept_of : List (WatchedDone M K) → List (Vec K)
  kept_of es = map (λ (e : WatchedDone M K). e.kept) es

  -- what was sent in each
  abbrev pub sent_of : List (WatchedDone M K) → List (Vec Sent)
  sent_of es = map (λ (e : WatchedDone M K). e.sent) es
