-- The losses of each name, counted one after the other.
use Rattle.std.specs.Prelude.{◌≡◌, ◌+◌, Bool, not, ◌&&◌, ◌||◌, T, List, [], map, Option, Some, cond, is_some}
use Rattle.std.specs.List.{filter}
use Rattle.std.specs.Option.{unwrap_or}
use Rattle.std.specs.FinMap.Entries.{find, is_sorted}
use Rattle.srm_net.specs.declared.packet.Name.{Name}
use Rattle.srm_net.specs.Names.{name_cmp}
use Rattle.srm_net.specs.Orders.{ordered}
use Rattle.srm_member.specs.declared.row.Row.{Row}
use Rattle.srm_report.specs.declared.losses.course.Course.{Course}
use Rattle.srm_report.specs.declared.losses.loss.Loss.{Loss}
use Rattle.srm_report.specs.declared.losses.loss_tally.LossTally.{LossTally}
use Rattle.srm_report.specs.declared.losses.mended_loss.MendedLoss.{MendedLoss}
use Rattle.srm_report.specs.Losses.{detected_at, loss_cmp, losses_in, recovered_at, recovery_by}
use Rattle.srm_report.specs.Operations.{each_once, has_left, later, sooner, tally_of}
use Rattle.srm_report.specs.Rows.{is_name}

-- all losses, by rising member
abbrev pub all_losses : List Row → List Loss
all_losses rows = ordered loss_cmp (losses_in rows)

-- of these losses those of the name
abbrev pub named : Name → List Loss → List Loss
named n ks = filter (λ k. is_name n k.name) ks

-- whether the member of a loss left without it
abbrev pub is_left : List Row → Loss → Bool
is_left rows k = not (is_some (recovered_at rows k)) && has_left rows k.member

abbrev pub recovery_of : List Row → Loss → Option MendedLoss
recovery_of rows k = recovery_by k.member (detected_at rows k) (recovered_at rows k)

-- a loss more was counted, of a member that left, or did not
abbrev pub tallied : LossTally → Loss → Course → Bool → LossTally
tallied t k c gone = record {
  losers = t.losers + 1;
  recovered = cond (is_some c.recovered) (t.recovered + 1) t.recovered;
  left = cond (not (is_some c.recovered) && gone) (t.left + 1) t.left;
  is_pending = t.is_pending || (not (is_some c.recovered) && not gone);
  detected = sooner t.detected (Some c.detected);
  last = later t.last (recovery_by k.member (Some c.detected) c.recovered);
}

-- what a map tells of a name
abbrev pub tally_in : List (Name × LossTally) → Name → LossTally
tally_in ts n = unwrap_or (find name_cmp n ts) (tally_of [] [])

-- the map has the names of these losses, and of each what became of its losses
pub record AreTallies (rows : List Row) (ks : List Loss) (ts : List (Name × LossTally)) : Type 0 where
  pub sorted : T (is_sorted name_cmp ts)
  pub names : map (λ e. e.0) ts ≡ ordered name_cmp (each_once (map (λ k. k.name) ks))
  pub counts : (n : Name) → tally_in ts n ≡ tally_of rows (named n ks)
