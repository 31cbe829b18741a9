-- What was sent, and cells that hear it.
use Rattle.std.specs.Prelude.{◌<◌, ℕ, List, [], ◌∷◌, map, length, All}
use Rattle.std.specs.List.{AllZip}
use Rattle.srm_net.specs.declared.packet.Packet.{Packet}
use Rattle.srm_net.specs.Limits.{end_of_time}
use Rattle.srm_net.specs.Network.{Network}
use Rattle.srm_scenario.specs.Plain.{PlainScenario}
use Rattle.srm_member.specs.Record.{Record}
use Rattle.srm_cell.specs.declared.cell.Cell.{Cell}
use Rattle.srm_cell.specs.declared.sent.Sent.{Sent}
use Rattle.srm_cell.specs.Setting.{Traffic, IsSpreadOf}
use Rattle.srm_cell.specs.Flights.{BringsNone}
use Rattle.srm_cell.specs.Cells.{PlainCell, hear}
use Rattle.srm_cell.specs.Views.{IsSoundCell, Becomes, plain_cell}

-- ---- what was sent

-- a member sent the packet before the latest end of all, and the spread is that of the packet
pub record IsSent (k : PlainScenario) (net : Network) (x : Sent) : Type 0 where
  pub sender : x.packet.id.sender < length k.members
  pub sent : x.packet.sent < end_of_time
  pub spread : IsSpreadOf net k.drops x.packet x.spread

-- the packets that were sent
abbrev pub packets_in : List Sent → List Packet
packets_in xs = map (λ (x : Sent). x.packet) xs

-- ---- a cell that hears

-- member m's cell after it hears these packets, one after the other
abbrev pub hear_all : Traffic → ℕ → List Packet → PlainCell → PlainCell
hear_all t m [] c = c
hear_all t m (p ∷ ps) c = hear_all t m ps (hear t p m c)

-- each of the packets is new to member m's cell in its turn
abbrev pub AreNewTo : Traffic → ℕ → List Packet → PlainCell → Type 0
AreNewTo t m [] c = Unit {0}
AreNewTo t m (p ∷ ps) c = BringsNone p.id c.inbox × AreNewTo t m ps (hear t p m c)

module _ {M : Type 0} where
  -- the cell may hear these packets: it is that of a member to which they are new, where f is what is seen of its box
  pub record MayHearAll (f : M → Record) (t : Traffic) (ps : List Packet) (c : Cell M) : Type 0 where
    pub sound : IsSoundCell f c
    pub member : c.number < t.members
    pub new : AreNewTo t c.number ps (plain_cell f c)

  -- the second is the first after it heard these packets, one after the other
  abbrev pub HearsAll : (M → Record) → Traffic → List Packet → Cell M → Cell M → Type 0
  HearsAll f t ps old new = Becomes f (λ p. hear_all t old.number ps p) old new

  -- so each of the cells
  abbrev pub AllMayHear : (M → Record) → Traffic → List Packet → List (Cell M) → Type 0
  AllMayHear f t ps cs = All (λ c. MayHearAll f t ps c) cs

  abbrev pub EachHearsAll : (M → Record) → Traffic → List Packet → List (Cell M) → List (Cell M) → Type 0
  EachHearsAll f t ps old new = AllZip (λ c d. HearsAll f t ps c d) old new
