-- The table of losses: of each name that a member lost, when that was detected, and when it was fixed.
use Rattle.std.specs.Prelude.{ℕ, ◌-◌, false, ◌&&◌, List, [], ◌∷◌, ◌++◌, map, Option, Some, None, ◌==◌, codes, decimal}
use Rattle.std.specs.declared.cmp.Ordering.{Ordering}
use Rattle.std.specs.Ordering.{nat_cmp}
use Rattle.std.specs.Cmp.Lexicographic.{slice_cmp}
use Rattle.std.specs.List.{flat_map, list_any}
use Rattle.std.specs.Option.{option_map_or}
use Rattle.srm_net.specs.Network.{Network}
use Rattle.srm_net.specs.Orders.{ordered}
use Rattle.srm_net.specs.Paths.{round}
use Rattle.srm_member.specs.declared.row.Row.{Row}
use Rattle.srm_member.specs.Orderly.{brought}
use Rattle.srm_member.specs.Kinds.{is_fixed}
use Rattle.srm_report.specs.declared.losses.loss.Loss.{Loss}
use Rattle.srm_report.specs.declared.losses.mended_loss.MendedLoss.{MendedLoss}
use Rattle.srm_report.specs.Rows.{is_name, or_dash, time_of_first}
use Rattle.srm_report.specs.Tables.{table_lines}

-- losses are compared by member, source, page and number
abbrev pub loss_cmp : Loss → Loss → Ordering
loss_cmp k l =
    slice_cmp nat_cmp (k.member ∷ k.name.source ∷ k.name.page ∷ k.name.number ∷ [])
    (l.member ∷ l.name.source ∷ l.name.page ∷ l.name.number ∷ [])

-- the losses of these rows, in the order in which they were detected
abbrev pub losses_in : List Row → List Loss
losses_in rows = flat_map (λ r. map (λ n. record { member = r.key.member; name = n }) r.lost) rows

-- when the loss was detected: in the first row in which the member lost the name
abbrev pub detected_at : List Row → Loss → Option ℕ
detected_at rows k = time_of_first (λ r. (r.key.member == k.member) && list_any (is_name k.name) r.lost) rows

-- when it was fixed: in the first in which the member took in the name as `fixed`
abbrev pub recovered_at : List Row → Loss → Option ℕ
recovered_at rows k =
    time_of_first (λ r. (r.key.member == k.member)
    && (is_fixed r.told && option_map_or (is_name k.name) (brought r.about) false)) rows

-- how a member recovered that detected a loss, and had it fixed, at these times
abbrev pub recovery_by : ℕ → Option ℕ → Option ℕ → Option MendedLoss
recovery_by m (Some detected) (Some recovered) =
    Some (record { member = m; detected = detected; recovered = recovered })
recovery_by m _ _ = None

-- how long a recovery took, over the round trip to the source, not reduced
abbrev pub delay_of : Network → ℕ → MendedLoss → List ℕ
delay_of net source r = decimal (r.recovered - r.detected) ++ codes "/" ++ decimal (round net r.member source)

-- the columns of the table
abbrev pub loss_columns : List (List ℕ)
loss_columns =
    codes "member" ∷ codes "source" ∷ codes "page" ∷ codes "number"
    ∷ codes "detected" ∷ codes "recovered" ∷ codes "delay" ∷ []

-- the row of a loss that was detected and fixed at these times
abbrev pub loss_fields : Network → Loss → Option ℕ → Option ℕ → List (List ℕ)
loss_fields net k detected recovered =
    decimal k.member ∷ decimal k.name.source ∷ decimal k.name.page ∷ decimal k.name.number
    ∷ or_dash decimal detected ∷ or_dash decimal recovered
    ∷ or_dash (delay_of net k.name.source) (recovery_by k.member detected recovered) ∷ []

-- the row of a loss, as these rows tell of it
abbrev pub loss_row : Network → List Row → Loss → List (List ℕ)
loss_row net rows k = loss_fields net k (detected_at rows k) (recovered_at rows k)

-- the table of all losses of these rows, in rising order
unfoldable pub losses_table : Network → List Row → List ℕ
losses_table net rows = table_lines loss_columns (map (loss_row net rows) (ordered loss_cmp (losses_in rows)))
