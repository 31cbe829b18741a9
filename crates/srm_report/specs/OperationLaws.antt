-- Laws of the table of operations.
use Rattle.std.specs.Prelude.{◌≡◌, ◌+◌, ℕ, Bool, List, length}
use Rattle.std.specs.List.{count_by, list_any, range_with_len, sum_by}
use Rattle.srm_net.specs.declared.packet.Name.{Name}
use Rattle.srm_member.specs.ByMember.{rows_of_member}
use Rattle.srm_member.specs.declared.row.Row.{Row}
use Rattle.srm_member.specs.Kinds.{is_ask}
use Rattle.srm_member.specs.Orderly.{IsOrderly}
use Rattle.srm_cell.specs.Setting.{setting_of}
use Rattle.srm_model.specs.World.{IsReached, World}
use Rattle.srm_scenario.specs.Accepted.{IsAccepted}
use Rattle.srm_scenario.specs.Plain.{PlainScenario}
use Rattle.srm_report.specs.Members.{counts_of}
use Rattle.srm_report.specs.Operations.{is_open, losses_of, names_lost, sending_of, sends_for, tally_of}
use Rattle.srm_report.specs.Rows.{is_name, time_of_first}

-- of the losers of an operation each has recovered, or left, or is open
abbrev pub LosersAddUp : Type 0
LosersAddUp = (rows : List Row) (n : Name)
    → (tally_of rows (losses_of rows n)).losers
    ≡ (tally_of rows (losses_of rows n)).recovered + (tally_of rows (losses_of rows n)).left
    + count_by (is_open rows) (losses_of rows n)

-- ---- sums over the table

-- requests, and repairs, of all operations are those of all members
abbrev pub AddUp : ℕ → List Row → Type 0
AddUp members rows =
    (sum_by (λ n. (sending_of rows n).requests) (names_lost rows)
    ≡ sum_by (λ m. (counts_of (rows_of_member m rows)).requests) (range_with_len 0 members))
    × (sum_by (λ n. (sending_of rows n).repairs) (names_lost rows)
    ≡ sum_by (λ m. (counts_of (rows_of_member m rows)).repairs) (range_with_len 0 members))

-- so it is in each run of an accepted scenario, and in each part of it up to a row
abbrev pub SendingsAddUp : Type 0
SendingsAddUp = (p : PlainScenario) (seed : ℕ) (w : World) → IsAccepted p
    → IsReached (setting_of p seed) w → AddUp (length p.members) w.trace

-- ---- the first to detect, and to ask

-- whether the row's member lost the name in it
abbrev pub loses : Name → Row → Bool
loses n r = list_any (is_name n) r.lost

-- an operation is detected in the first row in which a member lost it, and asked for in the first that sent a request
abbrev pub FirstsAreLeast : Type 0
FirstsAreLeast = (members : ℕ) (rows : List Row) → IsOrderly members rows → (n : Name)
    → ((tally_of rows (losses_of rows n)).detected ≡ time_of_first (loses n) rows)
    × ((sending_of rows n).asked ≡ time_of_first (sends_for is_ask n) rows)
