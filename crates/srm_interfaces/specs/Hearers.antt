-- Groups of cells that hear what was sent.
use Rattle.std.specs.Prelude.{List, All, IfOk, Result}
use Rattle.std.specs.List.{AllZip}
use Rattle.std.specs.Global.{Vec}
use Rattle.srm_net.specs.declared.packet.Packet.{Packet}
use Rattle.srm_member.specs.Record.{Record}
use Rattle.srm_cell.specs.declared.cell.Cell.{Cell}
use Rattle.srm_cell.specs.Setting.{Traffic}
use Rattle.srm_cell.specs.Hearing.{AllMayHear, EachHearsAll}

module _ {M : Type 0} where
  -- the cells of each group may hear these packets
  abbrev pub GroupsMayHear : (M → Record) → Traffic → List Packet → List (Vec (Cell M)) → Type 0
  GroupsMayHear f t ps gs = All (λ (g : Vec (Cell M)). AllMayHear f t ps g.items) gs

  -- each cell of each group heard these packets, one after the other: the groups stand in their order, and in each the
  -- cells in theirs
  abbrev pub GroupsHear : (M → Record) → Traffic → List Packet → List (Vec (Cell M)) → List (Vec (Cell M)) → Type 0
  GroupsHear f t ps old new = AllZip (λ (g h : Vec (Cell M)). EachHearsAll f t ps g.items h.items) old new

  -- what a call tells in which groups heard these packets
  abbrev pub TellsHeard : {E : Type 0} → (M → Record) → Traffic → List Packet → List (Vec (Cell M))
      → Result (Vec (Vec (Cell M))) E → Type 0
  TellsHeard f t ps gs r = IfOk r (λ heard. GroupsHear f t ps gs heard.items)
