-- The table of links: how many packets crossed each, and how many were dropped at it.
use Rattle.std.specs.Prelude.{ℕ, ◌/◌, List, [], ◌∷◌, map, length, codes, decimal}
use Rattle.std.specs.List.{range_with_len}
use Rattle.srm_ledger.specs.declared.kind.Kind.{Kind}
use Rattle.srm_ledger.specs.declared.kind.Kind.TheVariants.{Drawop, Request, Repair, Session, Dropped}
use Rattle.srm_ledger.specs.Counts.{counted_at}
use Rattle.srm_report.specs.Tables.{table_lines}

-- the columns of the table
abbrev pub link_columns : List (List ℕ)
link_columns =
    codes "link" ∷ codes "data" ∷ codes "requests" ∷ codes "repairs" ∷ codes "sessions" ∷ codes "dropped" ∷ []

-- the row of a link of which this is the number of each kind: its own number; the data, requests, repairs and session
-- messages that crossed it; and the packets dropped at it
abbrev pub link_fields : ℕ → (Kind → ℕ) → List (List ℕ)
link_fields l number =
    decimal l
    ∷ decimal (number Drawop)
    ∷ decimal (number Request)
    ∷ decimal (number Repair)
    ∷ decimal (number Session)
    ∷ decimal (number Dropped)
    ∷ []

-- the rows of all links that these totals count, each by five numbers
abbrev pub link_rows : List ℕ → List (List (List ℕ))
link_rows totals = map (λ l. link_fields l (counted_at totals l)) (range_with_len 0 (length totals / 5))

-- the table of links with these totals
unfoldable pub links_table : List ℕ → List ℕ
links_table totals = table_lines link_columns (link_rows totals)
