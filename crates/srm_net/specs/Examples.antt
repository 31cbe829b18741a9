-- Small networks, packets and outages.
use Rattle.std.specs.Prelude.{ℕ, [], ◌∷◌, Option, None}
use Rattle.srm_net.specs.Network.{Network}
use Rattle.srm_net.specs.DropRules.{DropRules}
use Rattle.srm_net.specs.declared.link.LinkSpec.{LinkSpec}
use Rattle.srm_net.specs.declared.packet.PacketId.{PacketId}

-- a link of delay 2 in both directions
abbrev pub short_link : ℕ → ℕ → LinkSpec
short_link a b = record { a = a; b = b; delay = 2; back = 2 }

-- a tree of eight nodes with a member on each, in which nodes 1 to 7 have the parents 0, 0, 0, 1, 1, 2 and 2
abbrev pub tree_of_eight : Network
tree_of_eight = record {
  nodes = 8;
  links =
      short_link 1 0 ∷ short_link 2 0 ∷ short_link 3 0 ∷ short_link 4 1 ∷ short_link 5 1 ∷ short_link 6 2
      ∷ short_link 7 2 ∷ [];
  hosts = 0 ∷ 1 ∷ 2 ∷ 3 ∷ 4 ∷ 5 ∷ 6 ∷ 7 ∷ [];
}

-- a link of delay 1 in the one direction and 3 in the other
abbrev pub uneven_link : ℕ → ℕ → LinkSpec
uneven_link a b = record { a = a; b = b; delay = 1; back = 3 }

-- a chain of three nodes with a member on each, whose second link is written from its higher node to its lower
abbrev pub uneven_chain : Network
uneven_chain = record { nodes = 3; links = uneven_link 0 1 ∷ uneven_link 2 1 ∷ []; hosts = 0 ∷ 1 ∷ 2 ∷ [] }

-- one node with one member
abbrev pub lone_node : Network
lone_node = record { nodes = 1; links = []; hosts = 0 ∷ [] }

-- a link of delay 5 in both directions
abbrev pub slow_link : ℕ → ℕ → LinkSpec
slow_link a b = record { a = a; b = b; delay = 5; back = 5 }

-- a chain of three nodes with a member on each
abbrev pub slow_chain : Network
slow_chain = record { nodes = 3; links = slow_link 0 1 ∷ slow_link 1 2 ∷ []; hosts = 0 ∷ 1 ∷ 2 ∷ [] }

-- the same with members on the nodes at its two ends alone
abbrev pub long_way : Network
long_way = record { nodes = 3; links = slow_link 0 1 ∷ slow_link 1 2 ∷ []; hosts = 0 ∷ 2 ∷ [] }

-- a chain of three nodes whose links take 1 tick from the node in the middle and 3 to it, with a member on each
abbrev pub turned_chain : Network
turned_chain = record { nodes = 3; links = uneven_link 1 0 ∷ uneven_link 1 2 ∷ []; hosts = 0 ∷ 1 ∷ 2 ∷ [] }

-- no listed drop, and one outage of link 1
abbrev pub outage_of_link_1 : ℕ → ℕ → DropRules
outage_of_link_1 from to = record {
  listed = [];
  outages = record { link = 1; from = from; to = to } ∷ [];
  losses = [];
  seed = 0;
}

-- one loss of link 1 at this rate, of stream 54 and seed 42
abbrev pub loss_of_link_1 : ℕ → ℕ → Option ℕ → DropRules
loss_of_link_1 rate from to = record {
  listed = [];
  outages = [];
  losses = record { link = 1; rate = rate; stream = 54; from = from; to = to; burst = None } ∷ [];
  seed = 42;
}

-- member 0's packet of this count
abbrev pub packet_of_member_0 : ℕ → PacketId
packet_of_member_0 n = record { sender = 0; count = n }
