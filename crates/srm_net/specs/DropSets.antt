-- What a set of drops says.
use Rattle.std.specs.Prelude.{◌≡◌, Bool, ◌&&◌, ◌==◌, List, [], ◌∷◌}
use Rattle.std.specs.Arc.{arc_value}
use Rattle.std.specs.List.{list_any}
use Rattle.std.specs.declared.cmp.Ordering.{Ordering}
use Rattle.std.specs.Ordering.{match_ordering}
use Rattle.srm_net.specs.declared.packet.PacketId.{PacketId}
use Rattle.srm_net.specs.declared.drops.Drops.TheInside.{Inside}
use Rattle.srm_net.specs.Paths.{drop_cmp}
use Rattle.srm_net.specs.Listed.{is_listed_somewhere}
use Rattle.srm_net.specs.DropRules.{DropRules}

-- the list with x at its place, unless it has x already
abbrev pub with_once : {A : Type 0} → (A → A → Ordering) → A → List A → List A
with_once cmp x [] = x ∷ []
with_once cmp x (y ∷ ys) = match_ordering (cmp x y) (x ∷ y ∷ ys) (y ∷ ys) (y ∷ with_once cmp x ys)

-- the elements in order, each once
abbrev pub ordered_once : {A : Type 0} → (A → A → Ordering) → List A → List A
ordered_once cmp [] = []
ordered_once cmp (x ∷ xs) = with_once cmp x (ordered_once cmp xs)

-- the entries of a set of drops, in order, the outages, and the losses with their seed
abbrev pub rules_of : Inside → DropRules
rules_of d = record {
  listed = ordered_once drop_cmp (arc_value d.sets).entries.keys;
  outages = (arc_value d.sets).outages;
  losses = (arc_value d.sets).losses;
  seed = d.seed;
}

-- whether the packet is in the list
abbrev pub has_packet : List PacketId → PacketId → Bool
has_packet ps p = list_any (λ q. (p.sender == q.sender) && (p.count == q.count)) ps

-- the packets are those of the entries
abbrev pub KnowsItsPackets : Inside → Type 0
KnowsItsPackets d =
    (p : PacketId) → has_packet (arc_value d.sets).packets.keys p
    ≡ is_listed_somewhere (arc_value d.sets).entries.keys p
