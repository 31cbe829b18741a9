-- Whether links make a tree of nodes.
use Rattle.std.specs.Prelude.{◌≡◌, ◌↔◌, ℕ, zero, suc, ◌+◌, Bool, true, ◌&&◌, [], is_some, length, nat_le, nat_lt, ◌==◌}
use Rattle.std.specs.List.{list_all}
use Rattle.srm_net.specs.Limits.{most_nodes}
use Rattle.srm_net.specs.Network.{Network}
use Rattle.srm_net.specs.Paths.{route_within}
use Rattle.srm_net.specs.Laws.{HasOnePathEach}

-- whether a test holds of each number below n
abbrev pub all_below : (ℕ → Bool) → ℕ → Bool
all_below test zero = true
all_below test (suc n) = test n && all_below test n

-- whether there is a way from node u to node v
abbrev pub has_way : Network → ℕ → ℕ → Bool
has_way w u v = is_some (route_within (length w.links) w.links [] u v)

-- whether there is 1 node to as many as there may be, each end of a link is one of them, the links are one fewer than
-- the nodes, and there is a way between any two nodes
unfoldable pub is_tree : Network → Bool
is_tree w =
    nat_le 1 w.nodes
    && (nat_le w.nodes most_nodes
    && (list_all (λ k. nat_lt k.a w.nodes && nat_lt k.b w.nodes) w.links
    && ((length w.links + 1 == w.nodes) && all_below (λ u. all_below (has_way w u) w.nodes) w.nodes)))

-- the test, which searches for ways, is passed exactly where there is 1 node to as many as there may be, each link
-- joins two of them, and between any two nodes there is exactly one path
abbrev pub TestTellsTrees : Type 0
TestTellsTrees = (w : Network) → is_tree w ≡ true ↔ HasOnePathEach w
