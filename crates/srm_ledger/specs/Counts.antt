-- Five numbers for each link, one for each kind, in one list.
use Rattle.std.specs.Prelude.{ℕ, ◌+◌, ◌*◌, List, replicate, slice_index, slice_set}
use Rattle.srm_ledger.specs.declared.kind.Kind.{Kind}
use Rattle.srm_ledger.specs.declared.kind.Kind.TheVariants.{Drawop, Request, Repair, Session, Dropped}

-- the place of a kind's number among a link's five
abbrev pub place_of : Kind → ℕ
place_of Drawop = 0
place_of Request = 1
place_of Repair = 2
place_of Session = 3
place_of Dropped = 4

-- the place of the number of a kind at link l
abbrev pub place_at : ℕ → Kind → ℕ
place_at l k = 5 * l + place_of k

-- the number of a kind at link l
abbrev pub counted_at : List ℕ → ℕ → Kind → ℕ
counted_at ns l k = slice_index ns (place_at l k)

-- n more of a kind at link l
abbrev pub more_by : ℕ → List ℕ → ℕ → Kind → List ℕ
more_by n ns l k = slice_set ns (place_at l k) (counted_at ns l k + n)

-- one more of a kind at link l
abbrev pub one_more : List ℕ → ℕ → Kind → List ℕ
one_more ns l k = slice_set ns (place_at l k) (counted_at ns l k + 1)

-- nothing counted at any of n links
abbrev pub nothing_at : ℕ → List ℕ
nothing_at n = replicate (5 * n) 0
