-- Tables of the links that meet each node.
use Rattle.std.specs.Prelude.{◌≡◌, ℕ, zero, suc, ◌+◌, ◌<◌, Bool, false, ◌||◌, ◌==◌, List, Option, Some, None, length}
use Rattle.std.specs.Prelude.{slice_get, slice_index, if◌then◌else◌}
use Rattle.srm_net.specs.declared.link.LinkSpec.{LinkSpec}
use Rattle.srm_net.specs.declared.earlier.Earlier.{Earlier}
use Rattle.srm_net.specs.declared.adjacency.Adjacency.{Adjacency}

-- whether a link, if there is one, meets node u
abbrev pub meets_node : ℕ → Option LinkSpec → Bool
meets_node u None = false
meets_node u (Some k) = (k.a == u) || (k.b == u)

-- one more than the number of the last of the first n links that meets node u, or 0 where none does
abbrev pub last_meeting : List LinkSpec → ℕ → ℕ → ℕ
last_meeting links u zero = 0
last_meeting links u (suc n) = if meets_node u (slice_get links n) then n + 1 else last_meeting links u n

-- the links before link l, this link, at its ends
pub record TellsEarlier (links : List LinkSpec) (l : ℕ) (k : LinkSpec) (e : Earlier) : Type 0 where
  pub a : e.a ≡ last_meeting links k.a l
  pub b : e.b ≡ last_meeting links k.b l

-- the last link of each node is told, and the one before each link at each of its ends
pub record TellsLinks (nodes : ℕ) (links : List LinkSpec) (t : Adjacency) : Type 0 where
  pub last_long : length t.last.items ≡ nodes
  pub last : (u : ℕ) → u < nodes → slice_index t.last.items u ≡ last_meeting links u (length links)
  pub earlier_long : length t.earlier.items ≡ length links
  pub earlier : (l : ℕ) (k : LinkSpec) → slice_get links l ≡ Some k
      → (e : Earlier) × (slice_get t.earlier.items l ≡ Some e)
      × TellsEarlier links l k e
