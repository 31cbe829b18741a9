-- To which nodes a packet comes.
use Rattle.std.specs.Prelude.{◌≡◌, ℕ, ◌+◌, ◌<◌, Bool, true, not, ◌&&◌, List, Option, Some, None, IfSome}
use Rattle.std.specs.Prelude.{is_some, is_none, length, map, replicate, slice_get, if◌then◌else◌}
use Rattle.std.specs.List.{list_any, list_all}
use Rattle.srm_net.specs.declared.packet.PacketId.{PacketId}
use Rattle.srm_net.specs.Network.{Network}
use Rattle.srm_net.specs.DropRules.{DropRules}
use Rattle.srm_net.specs.Paths.{host, route, hops_between, Stop, stop, stops, takes_out}
use Rattle.srm_net.specs.Rooting.{takes, at, IsHeld}
use Rattle.srm_net.specs.declared.position.Position.{Position}

-- what becomes of one packet: who sends it, its scope, for each node whether it would come there without scope, and,
-- where that is told, when, and how many hops the node is away
pub record PlainSpread : Type 0 where
  pub sender : ℕ
  pub scope : Option ℕ
  pub comes : List Bool
  pub arrivals : Option (List (Option ℕ))
  pub hops : Option (List ℕ)

-- whether a packet comes to each of so many nodes: to every one, where it is not told when
abbrev pub comes_in : ℕ → Option (List (Option ℕ)) → List Bool
comes_in nodes None = replicate nodes true
comes_in nodes (Some arrivals) = map is_some arrivals

-- whether the packet has no scope and comes to every node
abbrev pub is_everywhere : PlainSpread → Bool
is_everywhere s = is_none s.scope && list_all (λ b. b) s.comes

-- whether a packet that is at node u at tick t comes to node x: no link of the way takes it out
unfoldable pub comes_to : Network → (Stop → Bool) → ℕ → ℕ → ℕ → Bool
comes_to w out u t x = not (list_any out (stops w.links u t (route w u x)))

-- the tick at which a packet that is at node u at tick t comes to node x, if it comes there
abbrev pub arrival : Network → (Stop → Bool) → ℕ → ℕ → ℕ → Option ℕ
arrival w out u t x = if comes_to w out u t x then Some (t + takes w u x) else None

-- the tick at which it comes to the far end of a link that takes so many ticks, if it comes to the link
abbrev pub past_link : (Stop → Bool) → ℕ → ℕ → Option ℕ → Option ℕ
past_link out l ticks None = None
past_link out l ticks (Some at) = if out (stop l at) then None else Some (at + ticks)

-- it is told of each node when the packet comes there, if it does
pub record TellsArrivals (w : Network) (out : Stop → Bool) (u t : ℕ) (arrivals : List (Option ℕ)) : Type 0 where
  pub nodes : length arrivals ≡ w.nodes
  pub each : (x : ℕ) → x < w.nodes → slice_get arrivals x ≡ Some (arrival w out u t x)

-- and so far of each node that is this one or above it
pub record TellsAbove (w : Network) (positions : List Position) (out : Stop → Bool) (u t : ℕ)
    (arrivals : List (Option ℕ)) : Type 0 where
  pub nodes : length arrivals ≡ w.nodes
  pub above : (x : ℕ) → x < w.nodes → IsHeld (at positions x) (at positions u)
      → slice_get arrivals x ≡ Some (arrival w out u t x)

-- and of those at the first i places
pub record TellsFirst (w : Network) (positions : List Position) (out : Stop → Bool) (u t i : ℕ)
    (arrivals : List (Option ℕ)) : Type 0 where
  pub above : TellsAbove w positions out u t arrivals
  pub told : (x : ℕ) → x < w.nodes → (at positions x).place < i
      → slice_get arrivals x ≡ Some (arrival w out u t x)

-- it is told of each node how many hops it is from this one
pub record TellsHops (w : Network) (u : ℕ) (hops : List ℕ) : Type 0 where
  pub nodes : length hops ≡ w.nodes
  pub each : (x : ℕ) → x < w.nodes → slice_get hops x ≡ Some (hops_between w u x)

-- what becomes of packet p of this scope, sent at this tick
pub record IsSpread (w : Network) (rules : DropRules) (p : PacketId) (sent : ℕ) (scope : Option ℕ)
    (s : PlainSpread) : Type 0 where
  pub sender : s.sender ≡ p.sender
  pub scope_is : s.scope ≡ scope
  pub nodes : length s.comes ≡ w.nodes
  pub each : (x : ℕ) → x < w.nodes
      → slice_get s.comes x ≡ Some (comes_to w (takes_out rules p) (host w p.sender) sent x)
  pub arrivals : IfSome s.arrivals (TellsArrivals w (takes_out rules p) (host w p.sender) sent)
  pub hops : IfSome s.hops (TellsHops w (host w p.sender))

-- it is of a member of the network, and tells of each node
pub record FitsIn (w : Network) (s : PlainSpread) : Type 0 where
  pub sender : s.sender < length w.hosts
  pub nodes : length s.comes ≡ w.nodes
  pub hops : IfSome s.hops (λ hs. length hs ≡ w.nodes)
