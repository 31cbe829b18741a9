-- Requests and repairs are sent for names that some member lost.
use Rattle.std.specs.Prelude.{◌≡◌, ◌⊎◌, ℕ, All, List}
use Rattle.srm_net.specs.declared.packet.Name.{Name}
use Rattle.srm_member.specs.declared.row.About.TheVariants.{Named}
use Rattle.srm_member.specs.declared.row.Row.{Row}
use Rattle.srm_member.specs.declared.row.Word.TheVariants.{Answer, Ask}
use Rattle.srm_member.specs.declared.told.Told.TheVariants.{Sent}
use Rattle.srm_member.specs.Orderly.{LostIn}
use Rattle.srm_cell.specs.Setting.{Setting, IsFit}
use Rattle.srm_model.specs.World.{World, IsReached}

-- a request or repair that the row tells of is for a name that some member lost in these rows
abbrev pub IsForLost : List Row → Row → Type 0
IsForLost rows r =
    (r.cause ≡ Ask) ⊎ (r.cause ≡ Answer) → r.told ≡ Sent
    → (n : Name) × (r.about ≡ Named n) × (m : ℕ) × LostIn m n rows

-- so it is in each run, and in each part of it up to a row
abbrev pub SendingsAreForLosses : Type 0
SendingsAreForLosses = (s : Setting) (w : World) → IsFit s → IsReached s w → All (IsForLost w.trace) w.trace
