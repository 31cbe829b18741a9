-- Routes between nodes and between members, and what becomes of a packet on them.
use Rattle.std.specs.Prelude.{ℕ, zero, suc, ◌+◌, ◌/◌, Bool, true, false, not, ◌&&◌, ◌||◌, List, [], ◌∷◌, Option}
use Rattle.std.specs.Prelude.{Some, None, map, unwrap_or, length, take, slice_get, slice_index, ◌==◌, nat_le}
use Rattle.std.specs.Prelude.{if◌then◌else◌}
use Rattle.std.specs.List.{list_any, range_with_len}
use Rattle.std.specs.Option.{option_or, option_map}
use Rattle.std.specs.declared.cmp.Ordering.{Ordering}
use Rattle.std.specs.Ordering.{nat_cmp}
use Rattle.std.specs.Cmp.Lexicographic.{slice_cmp}
use Rattle.srm_net.specs.declared.link.LinkSpec.{LinkSpec}
use Rattle.srm_net.specs.declared.link.DropSpec.{DropSpec}
use Rattle.srm_net.specs.declared.packet.PacketId.{PacketId}
use Rattle.srm_net.specs.Network.{Network}
use Rattle.srm_net.specs.DropRules.{DropRules, is_out}
use Rattle.srm_net.specs.Losses.{is_lost}

-- ---- routes

-- whether the number stands in the list
abbrev pub is_in : List ℕ → ℕ → Bool
is_in ns n = list_any (λ k. k == n) ns

-- the node to which a link leads from node u, if it meets u
abbrev pub far_end : LinkSpec → ℕ → Option ℕ
far_end k u = if k.a == u then Some k.b else if k.b == u then Some k.a else None

-- the way on by a link that leads to this node, if any: `further` from there, unless the node was passed
abbrev pub way_on : (ℕ → Option (List ℕ)) → List ℕ → Option ℕ → Option (List ℕ)
way_on further passed None = None
way_on further passed (Some x) = if is_in passed x then None else further x

-- the first way from node u, by the links in their order, l the number of the first of them
abbrev pub first_way : (ℕ → Option (List ℕ)) → List ℕ → ℕ → ℕ → List LinkSpec → Option (List ℕ)
first_way further passed u l [] = None
first_way further passed u l (k ∷ ks) =
    option_or (option_map (λ ls. l ∷ ls) (way_on further passed (far_end k u))) (first_way further passed u (l + 1) ks)

-- a way of at most n links from node u to node v that meets none of the nodes passed, if there is one
unfoldable pub route_within : ℕ → List LinkSpec → List ℕ → ℕ → ℕ → Option (List ℕ)
route_within zero links passed u v = if u == v then Some [] else None
route_within (suc n) links passed u v =
    if u == v then Some [] else first_way (λ x. route_within n links (u ∷ passed) x v) (u ∷ passed) u 0 links

-- the links, by number, of the way from node u to node v. In a tree it is the one path
unfoldable pub route : Network → ℕ → ℕ → List ℕ
route w u v = unwrap_or (route_within (length w.links) w.links [] u v) []

-- how many links there are on the way from node u to node v
abbrev pub hops_between : Network → ℕ → ℕ → ℕ
hops_between w u v = length (route w u v)

-- ---- members

-- the node of member m
abbrev pub host : Network → ℕ → ℕ
host w m = slice_index w.hosts m

-- the way of packets from member a to member b
abbrev pub member_route : Network → ℕ → ℕ → List ℕ
member_route w a b = route w (host w a) (host w b)

-- how long a packet takes over a link from node u, one of its ends
abbrev pub delay_from : ℕ → LinkSpec → ℕ
delay_from u k = if k.a == u then k.delay else k.back

-- the same where there may be no link
abbrev pub delay_of : ℕ → Option LinkSpec → ℕ
delay_of u None = 0
delay_of u (Some k) = delay_from u k

-- the node to which a link leads from node u, if there is a link
abbrev pub end_of : ℕ → Option LinkSpec → ℕ
end_of u None = u
end_of u (Some k) = unwrap_or (far_end k u) u

-- the sum of the delays of these links, taken one after the other from node u on, each in the direction in which it is
-- taken
abbrev pub delay_along : List LinkSpec → ℕ → List ℕ → ℕ
delay_along links u [] = 0
delay_along links u (l ∷ ls) = delay_of u (slice_get links l) + delay_along links (end_of u (slice_get links l)) ls

-- how long a packet takes from member a to member b, in ticks
unfoldable pub distance : Network → ℕ → ℕ → ℕ
distance w a b = delay_along w.links (host w a) (member_route w a b)

-- the round trip between two members: how long a packet takes there, and another one back
abbrev pub round : Network → ℕ → ℕ → ℕ
round w a b = distance w a b + distance w b a

-- how many hops member b is from member a: the links on the way between them, whatever their delays
unfoldable pub hops : Network → ℕ → ℕ → ℕ
hops w a b = hops_between w (host w a) (host w b)

-- half the round trip between a member and each member in turn, rounded down
abbrev pub half_rounds_from : Network → ℕ → List ℕ
half_rounds_from w m = map (λ b. round w m b / 2) (range_with_len 0 (length w.hosts))

-- how many hops each member in turn is from a member
abbrev pub hops_from : Network → ℕ → List ℕ
hops_from w m = map (λ b. hops w m b) (range_with_len 0 (length w.hosts))

-- ---- scopes

-- whether so many links are within a scope, which is the greatest number that is, or none where all are
abbrev pub is_within : Option ℕ → ℕ → Bool
is_within None n = true
is_within (Some g) n = nat_le n g

-- what a scope leaves of a way: so many of its first links, or the whole way where there is no scope
abbrev pub first : {A : Type 0} → Option ℕ → List A → List A
first None xs = xs
first (Some g) xs = take g xs

-- ---- drops

-- drops are compared by link, sender and count
abbrev pub drop_cmp : DropSpec → DropSpec → Ordering
drop_cmp d e = slice_cmp nat_cmp (d.link ∷ d.id.sender ∷ d.id.count ∷ []) (e.link ∷ e.id.sender ∷ e.id.count ∷ [])

-- whether link l is configured to drop packet p
abbrev pub is_listed : List DropSpec → PacketId → ℕ → Bool
is_listed drops p l = list_any (λ d. (d.link == l) && ((d.id.sender == p.sender) && (d.id.count == p.count))) drops

-- ---- what becomes of a packet on its way

-- a link of a way, and the tick at which a packet comes to it
pub record Stop : Type 0 where
  pub link : ℕ
  pub at : ℕ

-- link l, to which a packet comes at tick t
abbrev pub stop : ℕ → ℕ → Stop
stop l t = record { link = l; at = t }

-- the stops of a packet that is at node u at tick t and takes these links one after the other
abbrev pub stops : List LinkSpec → ℕ → ℕ → List ℕ → List Stop
stops links u t [] = []
stops links u t (l ∷ ls) =
    stop l t ∷ stops links (end_of u (slice_get links l)) (t + delay_of u (slice_get links l)) ls

-- the stops of a packet that member a sends at this tick, on its way to member b
abbrev pub member_stops : Network → ℕ → ℕ → ℕ → List Stop
member_stops w a sent b = stops w.links (host w a) sent (member_route w a b)

-- whether the link of a stop takes packet p out there: it is listed for the packet, out at that tick, or loses the
-- packet
abbrev pub takes_out : DropRules → PacketId → Stop → Bool
takes_out rules p s =
    is_listed rules.listed p s.link
    || (is_out rules.outages s.link s.at || is_lost rules.losses rules.seed p s.link s.at)

-- whether packet p of this scope, sent at this tick, reaches member m: the member is within the scope, and no link of
-- the way from its sender takes it out
unfoldable pub reaches : Network → DropRules → PacketId → ℕ → Option ℕ → ℕ → Bool
reaches w rules p sent scope m =
    is_within scope (hops w p.sender m) && not (list_any (takes_out rules p) (member_stops w p.sender sent m))

-- whether link l is on the way, and neither it nor an earlier link of the way takes the packet out
abbrev pub crossed_on : (Stop → Bool) → List Stop → ℕ → Bool
crossed_on out [] l = false
crossed_on out (s ∷ ss) l = not (out s) && ((s.link == l) || crossed_on out ss l)

-- whether link l is the first of the way that takes the packet out
abbrev pub dropped_on : (Stop → Bool) → List Stop → ℕ → Bool
dropped_on out [] l = false
dropped_on out (s ∷ ss) l = if out s then (s.link == l) else dropped_on out ss l

-- whether a test holds of some number below n
abbrev pub some_below : (ℕ → Bool) → ℕ → Bool
some_below test zero = false
some_below test (suc n) = test n || some_below test n

-- whether packet p of this scope, sent at this tick, crosses link l on its way to some member, as far as the scope
-- goes, whether or not that member is within it or present
unfoldable pub crosses : Network → DropRules → PacketId → ℕ → Option ℕ → ℕ → Bool
crosses w rules p sent scope l =
    some_below (λ m. crossed_on (takes_out rules p) (first scope (member_stops w p.sender sent m)) l) (length w.hosts)

-- whether packet p of this scope, sent at this tick, is dropped at link l on its way to some member, as far as the
-- scope goes, whether or not that member is within it or present
unfoldable pub drops_at : Network → DropRules → PacketId → ℕ → Option ℕ → ℕ → Bool
drops_at w rules p sent scope l =
    some_below (λ m. dropped_on (takes_out rules p) (first scope (member_stops w p.sender sent m)) l) (length w.hosts)
