-- What every built network is.
use Rattle.std.specs.Prelude.{◌≡◌}
use Rattle.std.specs.Arc.{arc_value}
use Rattle.srm_net.specs.declared.net.Net.TheInside.{Inside}
use Rattle.srm_net.specs.Network.{Network, IsNetwork}
use Rattle.srm_net.specs.Least.{least_delay}
use Rattle.srm_net.specs.Tables.{TellsAllSides, TellsOuts}

-- its plain network
abbrev pub tree_of : Inside → Network
tree_of n = arc_value n.tree

-- it is a network, and its tables tell the truth of it
pub record IsTold (n : Inside) : Type 0 where
  pub network : IsNetwork (tree_of n)
  pub sides : TellsAllSides (tree_of n) n.sides.items
  pub outs : TellsOuts (tree_of n) n.outs.items
  pub least : n.least ≡ least_delay (tree_of n)
