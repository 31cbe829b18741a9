-- A plain network: nodes, links between them, and the nodes that host members.
use Rattle.std.specs.Prelude.{◌≡◌, ◌⊎◌, ℕ, ◌+◌, ◌<◌, ◌≤◌, All, List, [], ◌∷◌, Some, length, slice_get, nat_eq}
use Rattle.std.specs.List.{IsDistinct}
use Rattle.srm_net.specs.declared.link.LinkSpec.{LinkSpec}
use Rattle.srm_net.specs.Limits.{most_nodes, greatest_link_delay}

-- nodes are 0 up to their number; link l is the l-th of the list, and member m is on the m-th node of `hosts`
pub record Network : Type 0 where
  pub nodes : ℕ
  pub links : List LinkSpec
  pub hosts : List ℕ

-- the network with these nodes, links and hosts
abbrev pub plain_network : ℕ → List LinkSpec → List ℕ → Network
plain_network nodes links hosts = record { nodes = nodes; links = links; hosts = hosts }

-- the link joins these nodes, in either direction
abbrev pub Joins : LinkSpec → ℕ → ℕ → Type 0
Joins k u v = ((k.a ≡ u) × (k.b ≡ v)) ⊎ ((k.b ≡ u) × (k.a ≡ v))

-- links, by their numbers, that lead from node u to node v, each meeting the next, and the nodes on that way, u the
-- first
abbrev pub IsWalk : List LinkSpec → ℕ → List ℕ → ℕ → List ℕ → Type 0
IsWalk links u [] v ns = (u ≡ v) × (ns ≡ u ∷ [])
IsWalk links u (l ∷ ls) v ns =
    (k : LinkSpec) × (x : ℕ) × (ms : List ℕ) × (slice_get links l ≡ Some k) × Joins k u x × (ns ≡ u ∷ ms)
    × IsWalk links x ls v ms

-- a path from node u to node v: a list of links, each meeting the next, with no node twice
abbrev pub IsPath : List LinkSpec → ℕ → List ℕ → ℕ → Type 0
IsPath links u ls v = (ns : List ℕ) × IsWalk links u ls v ns × IsDistinct nat_eq ns

-- both ends are nodes
abbrev pub IsWithin : ℕ → LinkSpec → Type 0
IsWithin nodes k = (k.a < nodes) × (k.b < nodes)

-- there is a path between any two nodes
abbrev pub IsConnected : Network → Type 0
IsConnected w = (u v : ℕ) → u < w.nodes → v < w.nodes → (ls : List ℕ) × IsPath w.links u ls v

-- 1 node to as many as there may be, connected by one link fewer
pub record IsTree (w : Network) : Type 0 where
  pub some_nodes : 1 ≤ w.nodes
  pub few_nodes : w.nodes ≤ most_nodes
  pub ends : All (IsWithin w.nodes) w.links
  pub one_fewer : length w.links + 1 ≡ w.nodes
  pub connected : IsConnected w

-- 1 tick to as many as a link may take
abbrev pub IsLinkDelay : ℕ → Type 0
IsLinkDelay d = (1 ≤ d) × (d ≤ greatest_link_delay)

-- the link's two delays, from a to b and from b to a, are such
abbrev pub HasDelays : LinkSpec → Type 0
HasDelays k = IsLinkDelay k.delay × IsLinkDelay k.back

-- the link takes as long in both directions
abbrev pub IsAlike : LinkSpec → Type 0
IsAlike k = k.delay ≡ k.back

-- each host is a node, and no two members share one
abbrev pub AreHosts : ℕ → List ℕ → Type 0
AreHosts nodes hosts = All (λ n. n < nodes) hosts × IsDistinct nat_eq hosts

-- what every network of the simulator is
pub record IsNetwork (w : Network) : Type 0 where
  pub tree : IsTree w
  pub delays : All HasDelays w.links
  pub hosts : AreHosts w.nodes w.hosts
