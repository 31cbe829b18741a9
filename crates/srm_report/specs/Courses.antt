-- Losses and what became of them, as they are found row by row.
use Rattle.std.specs.Prelude.{◌≡◌, ℕ, ◌==◌, Bool, false, ◌&&◌, T, List, map, Option, Some, None, cond}
use Rattle.std.specs.List.{list_any}
use Rattle.std.specs.Option.{option_map, option_map_or}
use Rattle.std.specs.FinMap.Entries.{put, find, is_sorted}
use Rattle.srm_net.specs.declared.packet.Name.{Name}
use Rattle.srm_net.specs.Orders.{ordered}
use Rattle.srm_member.specs.declared.told.Told.TheVariants.{Skip}
use Rattle.srm_member.specs.declared.row.Row.{Row}
use Rattle.srm_member.specs.Orderly.{brought, AreLostOnce, AreFixedAfterLoss}
use Rattle.srm_member.specs.ByMember.{rows_of_member}
use Rattle.srm_member.specs.Kinds.{is_fixed}
use Rattle.srm_report.specs.declared.losses.course.Course.{Course}
use Rattle.srm_report.specs.declared.losses.loss.Loss.{Loss}
use Rattle.srm_report.specs.Losses.{loss_cmp, losses_in, detected_at, recovered_at}
use Rattle.srm_report.specs.Rows.{is_name}

-- when a row is, if there is one
abbrev pub row_time : Option Row → Option ℕ
row_time row = option_map (λ r. r.key.time) row

-- whether the member lost the name in this row
abbrev pub detects : Loss → Row → Bool
detects k r = (r.key.member == k.member) && list_any (is_name k.name) r.lost

-- whether the member took in the name as `fixed` in this row
abbrev pub fixes : Loss → Row → Bool
fixes k r = (r.key.member == k.member) && (is_fixed r.told && option_map_or (is_name k.name) (brought r.about) false)

-- the entries after this loss was fixed at this time, if it is among them
abbrev pub fixed_at : ℕ → Loss → List (Loss × Course) → Option Course → List (Loss × Course)
fixed_at at k es None = es
fixed_at at k es (Some c) = put loss_cmp k (record c { recovered = Some at }) es

abbrev pub after_fix : ℕ → Loss → List (Loss × Course) → List (Loss × Course)
after_fix at k es = fixed_at at k es (find loss_cmp k es)

-- what became of a loss, if it is one of these rows
abbrev pub course_of : List Row → Loss → Option Course
course_of rows k = option_map (λ at. record { detected = at; recovered = recovered_at rows k }) (detected_at rows k)

-- the entries are the losses of these rows, in rising order, each with what became of it
pub record TellLosses (rows : List Row) (es : List (Loss × Course)) : Type 0 where
  pub sorted : T (is_sorted loss_cmp es)
  pub losses : map (λ e. e.0) es ≡ ordered loss_cmp (losses_in rows)
  pub courses : (k : Loss) → find loss_cmp k es ≡ course_of rows k

-- each member loses no name twice, and takes in as `fixed` only what it lost in an earlier row, and has not fixed since
abbrev pub LoseInTurn : List Row → Type 0
LoseInTurn rows = (m : ℕ) → AreLostOnce (rows_of_member m rows) × AreFixedAfterLoss (rows_of_member m rows)

-- the row with these losses alone
abbrev pub losing : Row → List Name → Row
losing r ns = record r { told = Skip; lost = ns }

-- the name of the operation that the row's member took in as `fixed`
abbrev pub name_fixed : Row → Option Name
name_fixed r = cond (is_fixed r.told) (brought r.about) None
