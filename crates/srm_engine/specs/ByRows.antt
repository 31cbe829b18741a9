-- Crews that keep rows, watched.
use Rattle.std.specs.Prelude.{◌≡◌, List, [], ◌∷◌, All, length, map}
use Rattle.srm_net.specs.Network.{Network}
use Rattle.srm_scenario.specs.Plain.{PlainScenario}
use Rattle.srm_member.specs.declared.row.Row.{Row}
use Rattle.srm_cell.specs.declared.job.Done as job
use Rattle.srm_cell.specs.Totalled.{IsSentBelow}
use Rattle.srm_interfaces.specs.declared.watched.WatchedJob.{WatchedJob}
use Rattle.srm_interfaces.specs.declared.watched.WatchedDone.{WatchedDone}
use Rattle.srm_interfaces.specs.Watches.{Watches}

-- what is kept of the cells of each job
abbrev pub kept_in : {M K : Type 0} → List (WatchedJob M K) → List (List K)
kept_in js = map (λ j. j.kept.items) js

-- of each job something is kept of as many cells as have rows, and what was sent in the rows was sent by members in
-- a run
abbrev pub MayLeave : {M K : Type 0} → PlainScenario → List (List K) → List (job.Done M) → Type 0
MayLeave k [] [] = Unit {0}
MayLeave k (old ∷ olds) (d ∷ ds) =
    (length d.rows.items ≡ length old)
    × All (λ rows. All (λ r. IsSentBelow (length k.members) r.sent) rows) d.rows.items
    × MayLeave k olds ds
MayLeave k olds ds = ⊥

-- this is left of what is done of each job, where this was kept before
abbrev pub LeftEach : {M K : Type 0} → (List K → List (List Row) → List K → Type 0) → PlainScenario → Network
    → List (List K) → List (job.Done M) → List (WatchedDone M K) → Type 0
LeftEach takes k net [] [] [] = Unit {0}
LeftEach takes k net (old ∷ olds) (d ∷ ds) (e ∷ es) = Watches takes k net old d e × LeftEach takes k net olds ds es
LeftEach takes k net olds ds es = ⊥
