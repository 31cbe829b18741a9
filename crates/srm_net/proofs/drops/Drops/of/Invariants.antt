use Rattle.std.proofs.Common.{◌≡◌, ℕ, take}
use Rattle.srm_net.specs.declared.packet.PacketId.{PacketId}
use Rattle.srm_net.specs.Paths.{is_listed}
use Rattle.srm_net.specs.Listed.{is_listed_somewhere}
use Rattle.srm_net.specs.DropSets.{has_packet}
use Rattle.srm_net.proofs.drops.Drops.of.Given as goal

abbrev pub invariant-loop-entry : goal.invariant-loop-entry
invariant-loop-entry l = record {
  same : (p : PacketId) (link : ℕ) → is_listed l.entries.keys p link ≡ is_listed (take l.entry-index l.list) p link;
  known : (p : PacketId) → has_packet l.packets.keys p ≡ is_listed_somewhere (take l.entry-index l.list) p;
}
