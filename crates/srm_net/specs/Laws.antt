-- What holds of every network, and of the orders.
use Rattle.std.specs.Prelude.{◌≡◌, ◌≢◌, ◌↔◌, ℕ, ◌+◌, ◌/◌, ◌<◌, ◌≤◌, true, false, not, All, Contains, List, [], ◌∷◌}
use Rattle.std.specs.Prelude.{◌++◌, length, Option, Some, None, ◌&&◌, nat_lt, min, drop}
use Rattle.std.specs.List.{list_any}
use Rattle.std.specs.declared.cmp.Ordering.{Ordering}
use Rattle.std.specs.declared.cmp.Ordering.TheVariants.{Equal}
use Rattle.std.specs.Cmp.{IsTotalOrder}
use Rattle.srm_net.specs.declared.link.DropSpec.{DropSpec}
use Rattle.srm_net.specs.declared.link.OutageSpec.{OutageSpec}
use Rattle.srm_net.specs.declared.link.LossSpec.{LossSpec}
use Rattle.srm_net.specs.declared.packet.PacketId.{PacketId}
use Rattle.srm_net.specs.Orders.{Ascends}
use Rattle.srm_net.specs.declared.link.LinkSpec.{LinkSpec}
use Rattle.srm_net.specs.Network.{Network, IsPath, IsTree, IsAlike, IsNetwork}
use Rattle.srm_net.specs.Paths.{route, member_route, distance, round, hops, drop_cmp, is_listed, reaches, crosses}
use Rattle.srm_net.specs.Paths.{drops_at}
use Rattle.srm_net.specs.Paths.{Stop, stop, takes_out, is_within, first, member_stops, crossed_on, dropped_on}
use Rattle.srm_net.specs.Paths.{some_below}
use Rattle.srm_net.specs.DropRules.{DropRules, is_out, may_drop, with_seed}
use Rattle.srm_net.specs.Losses.{is_on, takes, loss_word, words_taking}
use Rattle.srm_net.specs.Fates.{is_on_way, joins_members}
use Rattle.srm_net.specs.Spreads.{PlainSpread, IsSpread, is_everywhere}
use Rattle.srm_net.specs.Least.{least_delay, out}
use Rattle.srm_net.specs.Limits.{most_nodes, greatest_distance}

-- in a tree the route between two nodes is a path, and there is no other
abbrev pub OnePath : Type 0
OnePath =
    (w : Network) → IsTree w → (u v : ℕ) → u < w.nodes → v < w.nodes
    → IsPath w.links u (route w u v) v × ((ls : List ℕ) → IsPath w.links u ls v → ls ≡ route w u v)

-- there is a path from node u to node v, and no other
abbrev pub HasOnePath : List LinkSpec → ℕ → ℕ → Type 0
HasOnePath links u v = (ls : List ℕ) × IsPath links u ls v × ((ms : List ℕ) → IsPath links u ms v → ms ≡ ls)

-- the link joins two nodes
abbrev pub JoinsTwo : ℕ → LinkSpec → Type 0
JoinsTwo nodes k = (k.a < nodes) × (k.b < nodes) × (k.a ≢ k.b)

-- 1 node to as many as there may be, each link between two of them, and exactly one path between any two
pub record HasOnePathEach (w : Network) : Type 0 where
  pub some_nodes : 1 ≤ w.nodes
  pub few_nodes : w.nodes ≤ most_nodes
  pub ends : All (JoinsTwo w.nodes) w.links
  pub one_path : (u v : ℕ) → u < w.nodes → v < w.nodes → HasOnePath w.links u v

-- trees, which are said to be connected by one link fewer, are the networks that have one path between any two nodes
abbrev pub TreesHaveOnePath : Type 0
TreesHaveOnePath = (w : Network) → IsTree w ↔ HasOnePathEach w

-- distances are at least 1 between different members, and at most the greatest
abbrev pub DistancesFit : Type 0
DistancesFit =
    (w : Network) → IsNetwork w → (a b : ℕ) → a < length w.hosts → b < length w.hosts
    → (a ≢ b → 1 ≤ distance w a b) × (distance w a b ≤ greatest_distance)

-- where each link takes as long in both directions, so do distances, and half a round trip is the distance
abbrev pub AlikeBothWays : Type 0
AlikeBothWays =
    (w : Network) → IsNetwork w → All IsAlike w.links → (a b : ℕ) → a < length w.hosts → b < length w.hosts
    → (distance w a b ≡ distance w b a) × (round w a b / 2 ≡ distance w a b)

-- a round trip takes as long from either end
abbrev pub RoundsTurn : Type 0
RoundsTurn = (w : Network) (a b : ℕ) → round w a b ≡ round w b a

-- a member is as many hops from another as that is from it
abbrev pub HopsTurn : Type 0
HopsTurn =
    (w : Network) → IsNetwork w → (a b : ℕ) → a < length w.hosts → b < length w.hosts → hops w a b ≡ hops w b a

-- and no more than by way of a third
abbrev pub HopsMeetTheTriangle : Type 0
HopsMeetTheTriangle =
    (w : Network) → IsNetwork w → (a b c : ℕ) → a < length w.hosts → b < length w.hosts → c < length w.hosts
    → hops w a c ≤ hops w a b + hops w b c

-- at least one from any other, none from itself, and fewer than there may be nodes
abbrev pub HopsFit : Type 0
HopsFit =
    (w : Network) → IsNetwork w → (a b : ℕ) → a < length w.hosts → b < length w.hosts
    → (a ≢ b → 1 ≤ hops w a b) × (hops w a a ≡ 0) × (hops w a b < most_nodes)

-- the least delay of a link is at least 1, and no member is nearer to another
abbrev pub LeastDelayFits : Type 0
LeastDelayFits =
    (w : Network) → IsNetwork w → (d : ℕ) → least_delay w ≡ Some d
    → (1 ≤ d) × ((a b : ℕ) → a < length w.hosts → b < length w.hosts → a ≢ b → d ≤ distance w a b)

-- where there is no link there are no two members
abbrev pub NoLinkNoTwo : Type 0
NoLinkNoTwo =
    (w : Network) → IsNetwork w → least_delay w ≡ None
    → (a b : ℕ) → a < length w.hosts → b < length w.hosts → a ≡ b

-- what `out` gives is a distance to another member, and no other member is nearer
abbrev pub OutFits : Type 0
OutFits =
    (w : Network) (m d : ℕ) → out w m ≡ Some d
    → ((b : ℕ) × (b < length w.hosts) × (b ≢ m) × (distance w m b ≡ d))
    × ((b : ℕ) → b < length w.hosts → b ≢ m → d ≤ distance w m b)

-- `out` gives nothing only where there is no other member
abbrev pub OutOfTheOnlyOne : Type 0
OutOfTheOnlyOne = (w : Network) (m : ℕ) → out w m ≡ None → (b : ℕ) → b < length w.hosts → b ≡ m

-- a packet reaches its sender
abbrev pub ReachesItsSender : Type 0
ReachesItsSender =
    (w : Network) (rules : DropRules) (p : PacketId) (sent : ℕ) (scope : Option ℕ)
    → reaches w rules p sent scope p.sender ≡ true

-- a packet that no link is listed for, and that is sent when no outage or loss is yet to end, reaches every member
-- within its scope
abbrev pub UnlistedReachesAll : Type 0
UnlistedReachesAll =
    (w : Network) (rules : DropRules) (p : PacketId) (sent : ℕ) → may_drop rules p sent ≡ false
    → (scope : Option ℕ) (m : ℕ) → reaches w rules p sent scope m ≡ is_within scope (hops w p.sender m)

-- without scope it crosses the links on the ways from its sender to members, and no other
abbrev pub UnlistedCrossesItsWays : Type 0
UnlistedCrossesItsWays =
    (w : Network) (rules : DropRules) (p : PacketId) (sent : ℕ) → may_drop rules p sent ≡ false
    → (l : ℕ) → crosses w rules p sent None l ≡ is_on_way w p.sender l

-- and is dropped nowhere
abbrev pub UnlistedIsNowhereDropped : Type 0
UnlistedIsNowhereDropped =
    (w : Network) (rules : DropRules) (p : PacketId) (sent : ℕ) → may_drop rules p sent ≡ false
    → (scope : Option ℕ) (l : ℕ) → drops_at w rules p sent scope l ≡ false

-- the links on the ways of a member are those on the ways between any two members: the same for every member
abbrev pub WaysTakeTheSameLinks : Type 0
WaysTakeTheSameLinks =
    (w : Network) → IsNetwork w → (a l : ℕ) → a < length w.hosts → l < length w.links
    → is_on_way w a l ≡ joins_members w l

-- a packet without scope that comes to every node crosses the links on the ways between members, and no other
abbrev pub EverywhereCrossesTheSame : Type 0
EverywhereCrossesTheSame =
    (w : Network) → IsNetwork w → (rules : DropRules) (p : PacketId) (sent : ℕ) (scope : Option ℕ) (s : PlainSpread)
    → IsSpread w rules p sent scope s → is_everywhere s ≡ true → p.sender < length w.hosts
    → (l : ℕ) → l < length w.links → crosses w rules p sent scope l ≡ joins_members w l

-- and is dropped nowhere
abbrev pub EverywhereIsNowhereDropped : Type 0
EverywhereIsNowhereDropped =
    (w : Network) → IsNetwork w → (rules : DropRules) (p : PacketId) (sent : ℕ) (scope : Option ℕ) (s : PlainSpread)
    → IsSpread w rules p sent scope s → is_everywhere s ≡ true → p.sender < length w.hosts
    → (l : ℕ) → l < length w.links → drops_at w rules p sent scope l ≡ false

-- ---- scopes

-- a scope leaves of a way its first links, and of a way that is no longer the whole
abbrev pub ScopesLeaveTheFirst : Type 0
ScopesLeaveTheFirst =
    (ls : List ℕ) (g : ℕ)
    → (first (Some g) ls ++ drop g ls ≡ ls) × (length (first (Some g) ls) ≡ min g (length ls))

-- without scope a packet reaches a member where no link of the way takes it out, and crosses links and is dropped at
-- links of the whole ways to members
abbrev pub NoScopeEndsNoWay : Type 0
NoScopeEndsNoWay =
    (w : Network) (rules : DropRules) (p : PacketId) (sent : ℕ)
    → ((m : ℕ) → reaches w rules p sent None m ≡ not (list_any (takes_out rules p) (member_stops w p.sender sent m)))
    × ((l : ℕ) → crosses w rules p sent None l
    ≡ some_below (λ m. crossed_on (takes_out rules p) (member_stops w p.sender sent m) l) (length w.hosts))
    × ((l : ℕ) → drops_at w rules p sent None l
    ≡ some_below (λ m. dropped_on (takes_out rules p) (member_stops w p.sender sent m) l) (length w.hosts))

-- what is within a scope is within another
abbrev pub IsNoWider : Option ℕ → Option ℕ → Type 0
IsNoWider g h = (n : ℕ) → is_within g n ≡ true → is_within h n ≡ true

-- with a scope that is no wider a packet reaches no other members, crosses no other links, and is dropped at no others
abbrev pub NarrowScopesTakePart : Type 0
NarrowScopesTakePart =
    (w : Network) (rules : DropRules) (p : PacketId) (sent : ℕ) (g h : Option ℕ) → IsNoWider g h
    → ((m : ℕ) → reaches w rules p sent g m ≡ true → reaches w rules p sent h m ≡ true)
    × ((l : ℕ) → crosses w rules p sent g l ≡ true → crosses w rules p sent h l ≡ true)
    × ((l : ℕ) → drops_at w rules p sent g l ≡ true → drops_at w rules p sent h l ≡ true)

-- where every member is within its scope, a packet has the fate of one without
abbrev pub WideScopesDecideNothing : Type 0
WideScopesDecideNothing =
    (w : Network) (rules : DropRules) (p : PacketId) (sent : ℕ) (scope : Option ℕ)
    → ((m : ℕ) → m < length w.hosts → is_within scope (hops w p.sender m) ≡ true)
    → ((m : ℕ) → m < length w.hosts → reaches w rules p sent scope m ≡ reaches w rules p sent None m)
    × ((l : ℕ) → crosses w rules p sent scope l ≡ crosses w rules p sent None l)
    × ((l : ℕ) → drops_at w rules p sent scope l ≡ drops_at w rules p sent None l)

-- ---- what decides

-- lists with the same drops list the same
abbrev pub SameDropsListed : Type 0
SameDropsListed =
    (ds es : List DropSpec) → ((d : DropSpec) → Contains ds d ↔ Contains es d)
    → (p : PacketId) (l : ℕ) → is_listed ds p l ≡ is_listed es p l

-- lists with the same outages have a link out at the same ticks
abbrev pub SameOutagesOut : Type 0
SameOutagesOut =
    (os qs : List OutageSpec) → ((o : OutageSpec) → Contains os o ↔ Contains qs o)
    → (l t : ℕ) → is_out os l t ≡ is_out qs l t

-- listed drops alone, without outages and losses
abbrev pub listed_alone : List DropSpec → ℕ → DropRules
listed_alone drops seed = record { listed = drops; outages = []; losses = []; seed = seed }

-- without outages and losses a packet reaches a member exactly where that is within its scope and no link of the way is
-- listed for it, whenever it is sent
abbrev pub ListedAloneReaches : Type 0
ListedAloneReaches =
    (w : Network) (drops : List DropSpec) (seed : ℕ) (p : PacketId) (sent : ℕ) (scope : Option ℕ) (m : ℕ)
    → reaches w (listed_alone drops seed) p sent scope m
    ≡ (is_within scope (hops w p.sender m) && not (list_any (is_listed drops p) (member_route w p.sender m)))

-- without outages and losses, a packet crosses the same links and is dropped at the same, whenever it is sent
abbrev pub ListedAloneAtAnyTime : Type 0
ListedAloneAtAnyTime =
    (w : Network) (drops : List DropSpec) (seed : ℕ) (p : PacketId) (sent later : ℕ) (scope : Option ℕ) (l : ℕ)
    → (crosses w (listed_alone drops seed) p sent scope l ≡ crosses w (listed_alone drops seed) p later scope l)
    × (drops_at w (listed_alone drops seed) p sent scope l ≡ drops_at w (listed_alone drops seed) p later scope l)

-- with these outages and losses besides
abbrev pub with_more : List OutageSpec → List LossSpec → DropRules → DropRules
with_more outages losses rules = record {
  listed = rules.listed;
  outages = outages ++ rules.outages;
  losses = losses ++ rules.losses;
  seed = rules.seed;
}

-- a loss of a link with a rate of 1,000,000, from a tick on up to below another, with slots or without
abbrev pub sure_loss : ℕ → ℕ → ℕ → Option ℕ → Option ℕ → LossSpec
sure_loss l stream from to burst = record {
  link = l;
  rate = 1000000;
  stream = stream;
  from = from;
  to = to;
  burst = burst;
}

-- it is an outage: the drop of every packet that comes to its link then
abbrev pub SureLossIsOutage : Type 0
SureLossIsOutage =
    (rules : DropRules) (l stream from to : ℕ) (burst : Option ℕ) (p : PacketId) (s : Stop)
    → takes_out (with_more [] (sure_loss l stream from (Some to) burst ∷ []) rules) p s
    ≡ takes_out (with_more (record { link = l; from = from; to = to } ∷ []) [] rules) p s

-- one that is on from the start and does not end is the drop of every packet at its link
abbrev pub SureLossDropsAll : Type 0
SureLossDropsAll =
    (rules : DropRules) (l stream : ℕ) (burst : Option ℕ) (p : PacketId) (t : ℕ)
    → takes_out (with_more [] (sure_loss l stream 0 None burst ∷ []) rules) p (stop l t) ≡ true

-- in one slot of a loss, while it is on, packets have one fate, whosever they are
abbrev pub SlotsHaveOneFate : Type 0
SlotsHaveOneFate =
    (o : LossSpec) (burst : ℕ) → o.burst ≡ Some burst → (t u : ℕ) → t / burst ≡ u / burst
    → is_on o t ≡ true → is_on o u ≡ true
    → (seed : ℕ) (p q : PacketId) → takes seed p t o ≡ takes seed q u o

-- without slots it is the packet's own word that decides
abbrev pub PacketsHaveTheirOwn : Type 0
PacketsHaveTheirOwn =
    (o : LossSpec) → o.burst ≡ None → (seed t : ℕ) (p : PacketId)
    → takes seed p t o ≡ (is_on o t && nat_lt (loss_word seed o.stream o.link p) (words_taking o.rate))

-- without losses the seed decides nothing
abbrev pub SeedDecidesLossesAlone : Type 0
SeedDecidesLossesAlone =
    (rules : DropRules) → rules.losses ≡ []
    → (seed : ℕ) (p : PacketId) (s : Stop) → takes_out (with_seed rules seed) p s ≡ takes_out rules p s

-- what becomes of a packet does not hang on drops of other packets
abbrev pub OthersDecideNothing : Type 0
OthersDecideNothing =
    (listed others : List DropSpec) (outages : List OutageSpec) (losses : List LossSpec) (seed : ℕ) (p : PacketId)
    → ((l : ℕ) → is_listed listed p l ≡ is_listed others p l)
    → (s : Stop)
    → takes_out (record { listed = listed; outages = outages; losses = losses; seed = seed }) p s
    ≡ takes_out (record { listed = others; outages = outages; losses = losses; seed = seed }) p s

-- a set of drops is one list in rising order
abbrev pub OneListOfDrops : Type 0
OneListOfDrops =
    (ds es : List DropSpec) → Ascends drop_cmp ds → Ascends drop_cmp es
    → ((d : DropSpec) → Contains ds d ↔ Contains es d) → ds ≡ es

-- a total order in which only equal values are not told apart
abbrev pub OrdersTotally : {A : Type 0} → (A → A → Ordering) → Type 0
OrdersTotally {A} cmp = IsTotalOrder cmp × ((x y : A) → cmp x y ≡ Equal → x ≡ y)
