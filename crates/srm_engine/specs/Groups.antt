-- The cells of all members, those of each job together.
use Rattle.std.specs.Prelude.{◌≡◌, ◌<◌, ◌≤◌, ℕ, suc, List, [], ◌∷◌, ◌++◌, length, map}
use Rattle.std.specs.Prelude.{IsPermutation}
use Rattle.std.specs.List.{AllZip}
use Rattle.std.specs.Global.{Vec}
use Rattle.srm_member.specs.declared.row.Row.{Row}
use Rattle.srm_member.specs.Record.{Record}
use Rattle.srm_cell.specs.declared.cell.Cell.{Cell}
use Rattle.srm_cell.specs.declared.job.Job.{Job}
use Rattle.srm_cell.specs.declared.job.Done as job
use Rattle.srm_cell.specs.Setting.{Setting}
use Rattle.srm_cell.specs.Cells.{PlainCell}
use Rattle.srm_cell.specs.Crossings.{packets_of}
pub use Rattle.srm_interfaces.specs.Grouped.{all_in, sizes}
use Rattle.srm_cell.specs.Jobs.{RanEach}
use Rattle.srm_engine.specs.Seen.{AreInOrder, plain_cells}
use Rattle.srm_engine.specs.declared.groups.Groups.{Groups}
use Rattle.srm_engine.specs.Soonest.{soon_in}
use Rattle.srm_model.specs.WindowRuns.{AreNewInTurn, each_hears}

-- ---- rows

-- the lists that are not empty
abbrev pub some_of : {A : Type 0} → List (List A) → List (List A)
some_of [] = []
some_of ([] ∷ ls) = some_of ls
some_of ((x ∷ xs) ∷ ls) = (x ∷ xs) ∷ some_of ls

-- ---- groups

-- so many cells may be in a job
abbrev pub IsCut : ℕ → Type 0
IsCut cut = (0 < cut) × (cut ≤ 1024)

-- groups of these sizes are runs of `cut` cells, the last of which may have fewer, but has one
abbrev pub AreCuts : ℕ → List ℕ → Type 0
AreCuts cut [] = Unit {0}
AreCuts cut (n ∷ []) = (0 < n) × (n ≤ cut)
AreCuts cut (n ∷ m ∷ ns) = (n ≡ cut) × AreCuts cut (m ∷ ns)

-- all sizes are `cut`
abbrev pub AreFull : ℕ → List ℕ → Type 0
AreFull cut [] = Unit {0}
AreFull cut (n ∷ ns) = (n ≡ cut) × AreFull cut ns

module _ {M : Type 0} where
  -- the cells of all groups stand in the order of their members' numbers, in runs of `cut`
  pub record AreGrouped (f : M → Record) (cut : ℕ) (gs : List (Vec (Cell M))) : Type 0 where
    pub order : AreInOrder f (all_in gs)
    pub cuts : AreCuts cut (sizes gs)

  -- the jobs that have these groups, from a place on
  abbrev pub jobs_with : ℕ → ℕ → List (Vec (Cell M)) → List (Job M)
  jobs_with till place [] = []
  jobs_with till place (g ∷ gs) =
      record { place = place; till = till; cells = g } ∷ jobs_with till (suc place) gs

  -- the groups of what is done
  abbrev pub groups_of : List (job.Done M) → List (Vec (Cell M))
  groups_of ds = map (λ (d : job.Done M). d.cells) ds

  -- the rows of each cell, in what is done
  abbrev pub lists_of : List (job.Done M) → List (List Row)
  lists_of [] = []
  lists_of (d ∷ ds) = d.rows.items ++ lists_of ds

  -- all cells as they are seen
  abbrev pub cells_of : (M → Record) → Groups M → List PlainCell
  cells_of f e = plain_cells f (all_in e.groups.items)

  -- the groups are those of all members, and what is kept of them is how soon something is due in each
  pub record AreKept (f : M → Record) (s : Setting) (e : Groups M) : Type 0 where
    pub cut : IsCut e.cut
    pub grouped : AreGrouped f e.cut e.groups.items
    pub soon : e.soon.items ≡ soon_in f s e.groups.items

  -- groups may be looked through again in a run with n members: they are runs of `cut` cells, of no more members, and
  -- something is kept of each
  pub record MayLookAgain (n : ℕ) (e : Groups M) : Type 0 where
    pub cut : IsCut e.cut
    pub cuts : AreCuts e.cut (sizes e.groups.items)
    pub members : length (all_in e.groups.items) ≤ n
    pub many : length e.groups.items ≤ length e.soon.items

  -- each group's cells are those of another after their own runs to a tick
  abbrev pub RanGroups : (M → Record) → ℕ → List (Vec (Cell M)) → List (Vec (Cell M)) → Type 0
  RanGroups f till gs hs = AllZip (λ g h. (lists : List (List Row)) × RanEach f till g.items lists h.items) gs hs

  -- after groups were looked through again: where what was kept is how soon something was due before the own runs of
  -- all cells to a tick, what is kept is how soon something is due after them
  abbrev pub LooksAgain : (M → Record) → Setting → ℕ → Groups M → Groups M → Type 0
  LooksAgain f s till old new =
      (before : List (Vec (Cell M))) → RanGroups f till before old.groups.items → old.soon.items ≡ soon_in f s before
      → AreGrouped f old.cut old.groups.items → AreKept f s new

  -- after the packets of rows were handed out, one after the other: every cell has heard them
  abbrev pub Hears : (M → Record) → Setting → List Row → Groups M → Groups M → Type 0
  Hears f s rows old new =
      AreKept f s old → AreKept f s new × (cells_of f new ≡ each_hears s.traffic 0 rows (cells_of f old))

  -- the packets of rows may be handed out in any order
  pub record MayHearInAnyOrder (f : M → Record) (s : Setting) (rows : List Row) (e : Groups M) : Type 0 where
    pub kept : AreKept f s e
    pub members : length (all_in e.groups.items) ≡ s.traffic.members
    pub new : (others : List Row) → IsPermutation (packets_of rows) (packets_of others)
        → AreNewInTurn s.traffic others (cells_of f e)

  -- after that every cell has heard them in some order
  abbrev pub HearsInSomeOrder : (M → Record) → Setting → List Row → Groups M → Groups M → Type 0
  HearsInSomeOrder f s rows old new =
      (others : List Row) × IsPermutation (packets_of rows) (packets_of others) × Hears f s others old new
