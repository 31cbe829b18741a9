-- A packet is handed once to each member to which it has a flight, and only packets that were sent are handed.
use Rattle.std.specs.Prelude.{◌≡◌, ℕ, Bool, false, ◌&&◌, List, ◌∷◌, ◌++◌, Some, is_some, ◌==◌, if◌then◌else◌, Contains}
use Rattle.std.specs.List.{count_by}
use Rattle.srm_net.specs.declared.packet.PacketId.{PacketId}
use Rattle.srm_net.specs.declared.packet.Packet.{Packet}
use Rattle.srm_member.specs.declared.row.About.{About}
use Rattle.srm_member.specs.declared.row.About.TheVariants.{Nothing, Of, Named}
use Rattle.srm_member.specs.declared.row.Row.{Row}
use Rattle.srm_cell.specs.Setting.{Setting, arrival_of}
use Rattle.srm_cell.specs.Cells.{word_of_body}
use Rattle.srm_model.specs.World.{World, IsReached, IsLast}

-- one of the rows sends the packet
abbrev pub SentIn : Packet → List Row → Type 0
SentIn p rows = (r : Row) × Contains rows r × (r.sent ≡ Some p)

-- whether two identities are one
abbrev pub same_packet : PacketId → PacketId → Bool
same_packet p q = (p.sender == q.sender) && (p.count == q.count)

-- whether an event is about this packet, which arrives
abbrev pub is_about : PacketId → About → Bool
is_about p (Of q) = same_packet p q.id
is_about p Nothing = false
is_about p (Named n) = false

-- whether a row is an arrival of the packet at member m
abbrev pub is_arrival_of : PacketId → ℕ → Row → Bool
is_arrival_of p m r = (r.key.member == m) && is_about p r.about

-- how often the rows hand the packet to member m
abbrev pub handing_count : PacketId → ℕ → List Row → ℕ
handing_count p m rows = count_by (is_arrival_of p m) rows

-- whether a row sends a packet of member m
abbrev pub is_sending : ℕ → Row → Bool
is_sending m r = (r.key.member == m) && is_some r.sent

-- how many packets the rows send of member m
abbrev pub sending_count : ℕ → List Row → ℕ
sending_count m rows = count_by (is_sending m) rows

-- ---- laws

-- a packet's identity is its sender, which is the row's member, and how many packets that member sent in earlier rows;
-- and it is sent at the row's time
abbrev pub PacketsAreNumbered : Type 0
PacketsAreNumbered =
    (s : Setting) (w : World) → IsReached s w → (before after : List Row) (r : Row) (p : Packet)
    → w.trace ≡ before ++ r ∷ after → r.sent ≡ Some p
    → (p.id.sender ≡ r.key.member) × (p.id.count ≡ sending_count r.key.member before) × (p.sent ≡ r.key.time)

-- a packet that was sent is handed once to each member to which it has a flight, and never to any other
abbrev pub PacketsAreHandedOnce : Type 0
PacketsAreHandedOnce =
    (s : Setting) (w : World) → IsLast s w → (p : Packet) → SentIn p w.trace → (m : ℕ)
    → handing_count p.id m w.trace ≡ (if is_some (arrival_of s.traffic p m) then 1 else 0)

-- what is handed was sent in an earlier row, and is handed at the time at which it arrives
abbrev pub HandedPacketsWereSent : Type 0
HandedPacketsWereSent =
    (s : Setting) (w : World) → IsReached s w → (before after : List Row) (r : Row) (p : Packet)
    → w.trace ≡ before ++ r ∷ after → r.about ≡ Of p
    → SentIn p before × (r.cause ≡ word_of_body p.body) × (arrival_of s.traffic p r.key.member ≡ Some r.key.time)

-- packets of one identity are one packet
abbrev pub PacketsAreTheirIdentities : Type 0
PacketsAreTheirIdentities =
    (s : Setting) (w : World) → IsReached s w → (p q : Packet) → SentIn p w.trace → SentIn q w.trace → p.id ≡ q.id
    → p ≡ q
