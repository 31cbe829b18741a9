-- What every tree with the positions of its nodes is.
use Rattle.srm_net.specs.declared.tree.Tree.TheInside.{Inside}
use Rattle.srm_net.specs.Network.{Network, IsNetwork, plain_network}
use Rattle.srm_net.specs.Rooting.{IsInOrder, TellsPositions}

-- the plain network
abbrev pub network_inside : Inside → Network
network_inside t = plain_network t.nodes t.links.items t.hosts.items

-- it is a network, and the positions of its nodes are told, and their order
pub record IsBuilt (t : Inside) : Type 0 where
  pub network : IsNetwork (network_inside t)
  pub rooted : TellsPositions (network_inside t) t.rooted.positions.items
  pub order : IsInOrder (network_inside t) t.rooted.positions.items t.rooted.order.items
