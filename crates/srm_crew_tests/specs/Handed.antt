-- Jobs as crews may be handed them.
use Rattle.std.specs.Prelude.{◌≡◌, ◌≤◌, ℕ, List, length, map, All}
use Rattle.std.specs.List.{range_with_len}
use Rattle.srm_net.specs.Limits.{most_nodes}
use Rattle.srm_member.specs.Record.{Record}
use Rattle.srm_cell.specs.declared.job.Job.{Job}
use Rattle.srm_cell.specs.declared.cell.Cell.{Cell}
use Rattle.srm_interfaces.specs.declared.watched.WatchedJob.{WatchedJob}
use Rattle.srm_interfaces.specs.Watches.{job_in}
use Rattle.srm_cell.specs.Jobs.{AreMembers, AreSound, MayAdvance, own_cells}

module _ {M : Type 0} where
  -- each of these jobs may be advanced, they stand in the order of their places, and are few
  pub record AreInPlace (f : M → Record) (members : ℕ) (js : List (Job M)) : Type 0 where
    pub jobs : All (λ j. MayAdvance f members j) js
    pub places : map (λ j. j.place) js ≡ range_with_len 0 (length js)
    pub few : length js ≤ most_nodes

  -- these are sound cells of so many members, and few
  pub record AreKnown (f : M → Record) (members : ℕ) (cs : List (Cell M)) : Type 0 where
    pub sound : AreSound f cs
    pub of_members : AreMembers members (own_cells f cs)
    pub few : length cs ≤ 1024

-- the watched job is this one: nothing is known of when something is due, and something is kept of each of its cells
abbrev pub IsWatchedAs : {M K : Type 0} → Job M → WatchedJob M K → Type 0
IsWatchedAs j w = (job_in w ≡ j) × (w.soon ≡ 0) × (length w.kept.items ≡ length w.cells.items)
