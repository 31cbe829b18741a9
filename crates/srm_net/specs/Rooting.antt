-- Positions of nodes in a tree that is rooted at node 0.
use Rattle.std.specs.Prelude.{◌≡◌, ◌⊎◌, ℕ, ◌+◌, ◌*◌, ◌^◌, ◌<◌, ◌≤◌, true, List, ◌∷◌, Some, length, slice_get}
use Rattle.std.specs.Prelude.{slice_index_or}
use Rattle.srm_net.specs.declared.link.LinkSpec.{LinkSpec}
use Rattle.srm_net.specs.declared.position.Position.{Position}
use Rattle.srm_net.specs.declared.rooted.Rooted.{Rooted}
use Rattle.srm_net.specs.declared.attaching.Attaching.{Attaching}
use Rattle.srm_net.specs.Network.{Network, IsTree}
use Rattle.srm_net.specs.Paths.{is_in, route, hops_between, end_of, delay_of, delay_along}

-- how long a packet takes from node u to node v
abbrev pub takes : Network → ℕ → ℕ → ℕ
takes w u v = delay_along w.links u (route w u v)

-- a position of no use but as a default
abbrev pub nowhere : Position
nowhere = record { place = 0; end = 0; depth = 0; parent = 0; link = 0; jump = 0; up = 0; down = 0 }

-- the position of node u
abbrev pub at : List Position → ℕ → Position
at positions u = slice_index_or positions u nowhere

-- the way from node u to any node of an earlier place begins with link l, which leads to node p
pub record IsParent (w : Network) (place : ℕ → ℕ) (u p l : ℕ) : Type 0 where
  pub node : p < w.nodes
  pub earlier : place p < place u
  pub link : l < length w.links
  pub leads : end_of u (slice_get w.links l) ≡ p
  pub route : (v : ℕ) → v < w.nodes → place v < place u → route w u v ≡ l ∷ route w p v

-- the ways between node u and any node of no later place than node j lead over j
pub record IsPassed (w : Network) (place : ℕ → ℕ) (u j : ℕ) : Type 0 where
  pub node : j < w.nodes
  pub there : (v : ℕ) → v < w.nodes → place v ≤ place j → takes w u v ≡ takes w u j + takes w j v
  pub back : (v : ℕ) → v < w.nodes → place v ≤ place j → takes w v u ≡ takes w v j + takes w j u
  pub hops : (v : ℕ) → v < w.nodes → place v ≤ place j
      → hops_between w u v ≡ hops_between w u j + hops_between w j v

-- the nodes to which the way from node 0 takes link l have the places from the one of node u up to below this end
pub record IsSubtree (w : Network) (place : ℕ → ℕ) (u l end : ℕ) : Type 0 where
  pub own : place u < end
  pub within : (x : ℕ) → x < w.nodes → is_in (route w 0 x) l ≡ true → (place u ≤ place x) × (place x < end)
  pub whole : (x : ℕ) → x < w.nodes → place u ≤ place x → place x < end → is_in (route w 0 x) l ≡ true

-- the position of node u is told
pub record IsPosition (w : Network) (place : ℕ → ℕ) (u : ℕ) (q : Position) : Type 0 where
  pub place_is : q.place ≡ place u
  pub depth : q.depth ≡ hops_between w u 0
  pub depth_low : q.depth ≤ place u
  pub parent : 1 ≤ place u → IsParent w place u q.parent q.link
  pub subtree : 1 ≤ place u → IsSubtree w place u q.link q.end
  pub jump : IsPassed w place u q.jump
  pub jump_earlier : 1 ≤ place u → place q.jump < place u
  pub jump_above : place q.jump ≤ place u
  pub up : q.up ≡ takes w u 0
  pub down : q.down ≡ takes w 0 u

-- in a tree each node has a place of its own, the root the first, and the position of each is told
pub record IsRooted (w : Network) (positions : List Position) : Type 0 where
  pub tree : IsTree w
  pub place : ℕ → ℕ
  pub root : place 0 ≡ 0
  pub apart : (u v : ℕ) → u < w.nodes → v < w.nodes → place u ≡ place v → u ≡ v
  pub long : length positions ≡ w.nodes
  pub each : (u : ℕ) → u < w.nodes → IsPosition w place u (at positions u)
  -- all nodes are below the root, and those below a node are below its parent
  pub whole : (x : ℕ) → x < w.nodes → place x < (at positions 0).end
  pub nested : (u : ℕ) → u < w.nodes → 1 ≤ place u → (at positions u).end ≤ (at positions (at positions u).parent).end

-- the positions of the nodes of a network are told
unfoldable pub TellsPositions : Network → List Position → Type 0
TellsPositions w positions = IsRooted w positions

-- the nodes stand in the order of their places
pub record IsInOrder (w : Network) (positions : List Position) (order : List ℕ) : Type 0 where
  pub node : (i u : ℕ) → slice_get order i ≡ Some u → (u < w.nodes) × ((at positions u).place ≡ i)
  pub each : (u : ℕ) → u < w.nodes → slice_get order (at positions u).place ≡ Some u

-- the positions of the nodes of a tree are told, and their order
pub record TellsTree (w : Network) (r : Rooted) : Type 0 where
  pub rooted : IsRooted w r.positions.items
  pub order : IsInOrder w r.positions.items r.order.items

-- the ways between nodes u and v lead up to the node of this position, and down from there
pub record IsMeeting (w : Network) (positions : List Position) (u v : ℕ) (q : Position) : Type 0 where
  pub there : takes w u v + (q.up + q.down) ≡ (at positions u).up + (at positions v).down
  pub back : takes w v u + (q.up + q.down) ≡ (at positions v).up + (at positions u).down
  pub hops : hops_between w u v + 2 * q.depth ≡ (at positions u).depth + (at positions v).depth

-- the way from node u to node v begins with link l, which leads to node x
pub record IsFirstLink (w : Network) (u v l x : ℕ) : Type 0 where
  pub link : l < length w.links
  pub leads : end_of u (slice_get w.links l) ≡ x
  pub node : x < w.nodes
  pub route : route w u v ≡ l ∷ route w x v

-- a position holds the place of the node of another: that node is the one of the position, or below it
abbrev pub IsHeld : Position → Position → Type 0
IsHeld q p = (q.place ≤ p.place) × (p.place < q.end)

-- node x is the one below node u, and next to it, that is node v or above it
pub record IsChildAbove (w : Network) (positions : List Position) (u v x : ℕ) : Type 0 where
  pub node : x < w.nodes
  pub parent : (at positions x).parent ≡ u
  pub below : (at positions u).place < (at positions x).place
  pub held : IsHeld (at positions x) (at positions v)

-- the positions tell all that is asked of the node that this step attaches, and its delays and depth fit
pub record MayFollow (links : List LinkSpec) (positions : List Position) (s : Attaching) : Type 0 where
  pub link : s.link < length links
  pub parent : s.parent < length positions
  pub far : (at positions s.parent).jump < length positions
  pub farther : (at positions (at positions s.parent).jump).jump < length positions
  pub depth : (at positions s.parent).depth + 1 < 2 ^ 16
  pub up : delay_of s.node (slice_get links s.link) + (at positions s.parent).up < 2 ^ 64
  pub down : (at positions s.parent).down + delay_of s.parent (slice_get links s.link) < 2 ^ 64

-- what the position of that node tells, by those of its parent and of the jump from there
pub record Follows (links : List LinkSpec) (place end : ℕ) (s : Attaching) (above far new : Position) : Type 0 where
  pub place_is : new.place ≡ place
  pub end_is : new.end ≡ end
  pub depth_is : new.depth ≡ above.depth + 1
  pub parent_is : new.parent ≡ s.parent
  pub link_is : new.link ≡ s.link
  pub jump_is : (new.jump ≡ s.parent) ⊎ (new.jump ≡ far.jump)
  pub up_is : new.up ≡ delay_of s.node (slice_get links s.link) + above.up
  pub down_is : new.down ≡ above.down + delay_of s.parent (slice_get links s.link)
