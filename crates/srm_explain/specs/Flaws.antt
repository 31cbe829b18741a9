-- Why the links of a scenario make no tree of its nodes, and what is said of that.
use Rattle.std.specs.Prelude.{◌≡◌, ◌≢◌, ℕ, ◌+◌, ◌-◌, ◌<◌, ◌≤◌, ◌==◌, Bool, true, false, not, ◌&&◌, ◌||◌, nat_le, nat_lt}
use Rattle.std.specs.Prelude.{List, [], ◌∷◌, ◌++◌, Option, Some, None, length, take, unwrap_or, option_map, slice_get}
use Rattle.std.specs.Prelude.{get_or, codes, decimal, if◌then◌else◌}
use Rattle.std.specs.List.{list_all, AllByRecursion}
use Rattle.srm_net.specs.declared.link.LinkSpec.{LinkSpec}
use Rattle.srm_net.specs.Network.{plain_network, IsWalk}
use Rattle.srm_scenario.specs.declared.file_key.FileKey.{FileKey}
use Rattle.srm_scenario.specs.declared.file_key.FileKey.TheVariants as key
use Rattle.srm_scenario.specs.Trees.{has_way}
use Rattle.srm_explain.specs.declared.flaw.Flaw.{Flaw}
use Rattle.srm_explain.specs.declared.flaw.Flaw.TheVariants as flaw

-- ---- what is found

-- the end of a link that stands at this key
abbrev pub end_at : FileKey → LinkSpec → ℕ
end_at key.A k = k.a
end_at other k = k.b

-- a node to which these links make no way from node 0
abbrev pub IsUnreached : ℕ → List LinkSpec → ℕ → Type 0
IsUnreached nodes links v = (v < nodes) × (has_way (plain_network nodes links []) 0 v ≡ false)

-- the parent of a node, where link k joins node k + 1 to its parent
abbrev pub parent_of : List LinkSpec → ℕ → Option ℕ
parent_of links v = if v == 0 then None else option_map (λ k. k.a) (slice_get links (v - 1))

-- the first of some nodes, or this one
abbrev pub first_or : ℕ → List ℕ → ℕ
first_or end [] = end
first_or end (v ∷ vs) = v

-- each of these nodes is the child of the next one, and the last one is the child of this one
abbrev pub Climbs : List LinkSpec → List ℕ → ℕ → Type 0
Climbs links [] end = Unit {0}
Climbs links (v ∷ vs) end = (parent_of links v ≡ Some (first_or end vs)) × Climbs links vs end

-- each of these nodes is the child of the next one, and the last one is the child of the first
abbrev pub IsCircle : List LinkSpec → List ℕ → Type 0
IsCircle links [] = ⊥
IsCircle links (v ∷ vs) = Climbs links (v ∷ vs) v

-- these links, which stand before link l, lead from one of its ends to the other: it closes a circle
abbrev pub Closes : List LinkSpec → ℕ → List ℕ → Type 0
Closes links l ls =
    (k : LinkSpec) × (slice_get links l ≡ Some k) × (list_all (λ m. nat_lt m l) ls ≡ true)
    × (ns : List ℕ) × IsWalk links k.b ls k.a ns

-- for this reason these links make no tree of so many nodes, where they are those to parents or not
abbrev pub IsFlaw : Bool → ℕ → List LinkSpec → Flaw → Type 0
IsFlaw parents nodes links (flaw.NoEnd link key n) =
    (parents ≡ false) × (k : LinkSpec) × (slice_get links link ≡ Some k) × (n ≡ nodes) × (nodes ≤ end_at key k)
IsFlaw parents nodes links (flaw.NoParent v n) =
    (parents ≡ true) × (link : ℕ) × (v ≡ link + 1) × (k : LinkSpec) × (slice_get links link ≡ Some k)
    × (n ≡ nodes) × (nodes ≤ k.a)
IsFlaw parents nodes links (flaw.Circle vs) = (parents ≡ true) × IsCircle links vs.items
IsFlaw parents nodes links (flaw.Closing l ls) = (parents ≡ false) × Closes links l ls.items
IsFlaw parents nodes links (flaw.LinkCount n m) = (n ≡ nodes) × (m ≡ length links) × (length links + 1 ≢ nodes)
IsFlaw parents nodes links (flaw.Unreached vs) =
    (vs.items ≢ []) × AllByRecursion (IsUnreached nodes links) vs.items

-- ---- what is said of it

-- numbers, each with a space in front
abbrev pub spaced : List ℕ → List ℕ
spaced [] = []
spaced (n ∷ ns) = (codes " " ++ decimal n) ++ spaced ns

-- the same; of many the first 20, and how many more there are
abbrev pub first_spaced : List ℕ → List ℕ
first_spaced ns =
    if nat_le (length ns) 20
    then spaced ns
    else spaced (take 20 ns) ++ (codes " and " ++ (decimal (length ns - 20) ++ codes " more"))

-- what is said of nodes that make a circle
abbrev pub circle_sentence : List ℕ → List ℕ
circle_sentence ns =
    if length ns == 1
    then codes "node " ++ (decimal (get_or ns 0 0) ++ codes " is its own parent")
    else codes "these nodes make a circle, each a child of the next, the last of the first:" ++ first_spaced ns

-- what is said of a link that closes a circle with these
abbrev pub closing_sentence : ℕ → List ℕ → List ℕ
closing_sentence l [] = codes "link " ++ (decimal l ++ codes " joins a node to itself")
closing_sentence l ls =
    codes "link " ++ (decimal l ++ (codes " closes a circle with links before it:" ++ first_spaced ls))

-- what is said of a reason
abbrev pub flaw_sentence : Flaw → List ℕ
flaw_sentence (flaw.NoEnd link key nodes) =
    codes "link "
    ++ (decimal link ++ (codes " ends at no node: " ++ (decimal nodes ++ codes " in all, numbered from 0")))
flaw_sentence (flaw.LinkCount nodes links) =
    codes "nodes: "
    ++ (decimal nodes ++ (codes ", links: " ++ (decimal links ++ codes "; a tree has one link fewer than nodes")))
flaw_sentence (flaw.NoParent node nodes) =
    codes "the parent of node "
    ++ (decimal node ++ (codes " is no node: " ++ (decimal nodes ++ codes " in all, numbered from 0")))
flaw_sentence (flaw.Circle nodes) = circle_sentence nodes.items
flaw_sentence (flaw.Closing link earlier) = closing_sentence link earlier.items
flaw_sentence (flaw.Unreached nodes) = codes "not reached from node 0:" ++ first_spaced nodes.items

-- ---- marks

-- whether a node is marked
abbrev pub is_reached : List Bool → ℕ → Bool
is_reached reached v = unwrap_or (slice_get reached v) false

-- whether both ends of a link are marked, or neither
abbrev pub is_even : List Bool → LinkSpec → Bool
is_even reached k =
    (not (is_reached reached k.a) || is_reached reached k.b) && (not (is_reached reached k.b) || is_reached reached k.a)

-- whether node 0 is marked, and of each link both ends or neither: then every node is marked to which there is a way
-- from node 0
abbrev pub is_closed : List Bool → List LinkSpec → Bool
is_closed reached links = is_reached reached 0 && list_all (is_even reached) links
