-- The table of operations: of each name that some member lost, how many lost it and have it again, and what was sent
-- for it.
use Rattle.std.specs.Prelude.{ℕ, ◌==◌, Bool, false, not, ◌&&◌, List, [], ◌∷◌, ◌++◌, length, map, min}
use Rattle.std.specs.Prelude.{Option, Some, None, is_some, nat_lt, cond, codes, decimal}
use Rattle.std.specs.List.{count_by, filter, fold, list_any}
use Rattle.srm_net.specs.declared.packet.Name.{Name}
use Rattle.srm_net.specs.Names.{name_cmp}
use Rattle.srm_net.specs.Network.{Network}
use Rattle.srm_net.specs.Orders.{ordered}
use Rattle.srm_member.specs.declared.row.About.{About}
use Rattle.srm_member.specs.declared.row.About.TheVariants.{Nothing, Of, Named}
use Rattle.srm_member.specs.declared.row.Row.{Row}
use Rattle.srm_member.specs.declared.row.Word.{Word}
use Rattle.srm_member.specs.Kinds.{is_ask, is_answer, is_leave, is_sent}
use Rattle.srm_report.specs.declared.losses.loss.Loss.{Loss}
use Rattle.srm_report.specs.declared.losses.mended_loss.MendedLoss.{MendedLoss}
use Rattle.srm_report.specs.declared.operations.sent_for_name.SentForName.{SentForName}
use Rattle.srm_report.specs.declared.losses.loss_tally.LossTally.{LossTally}
use Rattle.srm_report.specs.Losses.{loss_cmp, losses_in, detected_at, recovered_at, recovery_by, delay_of}
use Rattle.srm_report.specs.Rows.{is_name, or_dash}
use Rattle.srm_report.specs.Tables.{table_lines}

-- ---- times

-- the sooner of two times, where there are
abbrev pub sooner : Option ℕ → Option ℕ → Option ℕ
sooner a None = a
sooner None (Some b) = Some b
sooner (Some a) (Some b) = Some (min a b)

-- ---- what was sent

-- whether a timer's event is of this name
abbrev pub is_about : Name → About → Bool
is_about n Nothing = false
is_about n (Of packet) = false
is_about n (Named k) = is_name n k

-- whether a packet was sent for the name in an event of this kind
abbrev pub sends_for : (Word → Bool) → Name → Row → Bool
sends_for is_kind n r = is_kind r.cause && (is_sent r.told && is_about n r.about)

-- what all members sent for the name: when the first request was, and how many requests and repairs there were
abbrev pub sending_of : List Row → Name → SentForName
sending_of rows n = record {
  asked = fold sooner None (map (λ r. cond (sends_for is_ask n r) (Some r.key.time) None) rows);
  requests = count_by (sends_for is_ask n) rows;
  repairs = count_by (sends_for is_answer n) rows;
}

-- ---- who lost it

-- the losses of the name, by rising member
abbrev pub losses_of : List Row → Name → List Loss
losses_of rows n = filter (λ k. is_name n k.name) (ordered loss_cmp (losses_in rows))

-- each of these names once, where it stands first
abbrev pub each_once : List Name → List Name
each_once ns = fold (λ known n. cond (list_any (is_name n) known) known (known ++ n ∷ [])) [] ns

-- the names that some member lost, rising, each once
abbrev pub names_lost : List Row → List Name
names_lost rows = ordered name_cmp (each_once (map (λ k. k.name) (ordered loss_cmp (losses_in rows))))

-- whether the member left
abbrev pub has_left : List Row → ℕ → Bool
has_left rows m = list_any (λ r. (r.key.member == m) && is_leave r.cause) rows

-- whether a loss is open: it was not fixed, and its member did not leave
abbrev pub is_open : List Row → Loss → Bool
is_open rows k = not (is_some (recovered_at rows k)) && not (has_left rows k.member)

-- ---- the last to recover

-- the later of two recoveries, and the former of two at one time
abbrev pub later : Option MendedLoss → Option MendedLoss → Option MendedLoss
later last None = last
later None (Some next) = Some next
later (Some last) (Some next) = cond (nat_lt last.recovered next.recovered) (Some next) (Some last)

-- ---- the table

-- what became of these losses
abbrev pub tally_of : List Row → List Loss → LossTally
tally_of rows ks = record {
  losers = length ks;
  recovered = count_by (λ k. is_some (recovered_at rows k)) ks;
  left = count_by (λ k. not (is_some (recovered_at rows k)) && has_left rows k.member) ks;
  is_pending = list_any (is_open rows) ks;
  detected = fold sooner None (map (detected_at rows) ks);
  last = fold later None (map (λ k. recovery_by k.member (detected_at rows k) (recovered_at rows k)) ks);
}

-- the last recovery as it is told: where no loss is open
abbrev pub last_told : LossTally → Option MendedLoss
last_told t = cond t.is_pending None t.last

-- the columns of the table
abbrev pub operation_columns : List (List ℕ)
operation_columns =
    codes "source" ∷ codes "page" ∷ codes "number" ∷ codes "losers" ∷ codes "recovered" ∷ codes "left"
    ∷ codes "detected" ∷ codes "asked" ∷ codes "requests" ∷ codes "repairs" ∷ codes "last" ∷ codes "delay" ∷ []

-- the row of a name of whose losses this became, and for which this was sent
abbrev pub operation_fields : Network → Name → LossTally → SentForName → List (List ℕ)
operation_fields net n t s =
    decimal n.source ∷ decimal n.page ∷ decimal n.number
    ∷ decimal t.losers ∷ decimal t.recovered ∷ decimal t.left
    ∷ or_dash decimal t.detected ∷ or_dash decimal s.asked ∷ decimal s.requests ∷ decimal s.repairs
    ∷ or_dash (λ r. decimal r.member) (last_told t) ∷ or_dash (delay_of net n.source) (last_told t) ∷ []

-- the row of a name, as these rows tell of it
abbrev pub operation_row : Network → List Row → Name → List (List ℕ)
operation_row net rows n = operation_fields net n (tally_of rows (losses_of rows n)) (sending_of rows n)

-- the table of all operations that some member lost
unfoldable pub operations_table : Network → List Row → List ℕ
operations_table net rows = table_lines operation_columns (map (operation_row net rows) (names_lost rows))
