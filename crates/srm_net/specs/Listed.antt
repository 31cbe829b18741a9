-- Packets that some link drops.
use Rattle.std.specs.Prelude.{Bool, ◌&&◌, ◌==◌, List}
use Rattle.std.specs.List.{list_any}
use Rattle.srm_net.specs.declared.link.DropSpec.{DropSpec}
use Rattle.srm_net.specs.declared.packet.PacketId.{PacketId}

-- whether packet p is listed at some link
abbrev pub is_listed_somewhere : List DropSpec → PacketId → Bool
is_listed_somewhere drops p = list_any (λ d. (d.id.sender == p.sender) && (d.id.count == p.count)) drops
