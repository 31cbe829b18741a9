-- The table of timers: how members' constants are adapted, row by row of the trace.
use Rattle.std.specs.Prelude.{ℕ, List, [], ◌∷◌, codes, decimal}
use Rattle.std.specs.Option.{option_map_or}
use Rattle.csv.specs.Writing.{row_text, default_writer}
use Rattle.srm_member.specs.declared.intervals.Intervals.{Intervals}
use Rattle.srm_member.specs.declared.row.Row.{Row}
use Rattle.srm_report.specs.Listings.{Form, text_in}
use Rattle.srm_report.specs.Trace.{cause_word, ref_text}
use Rattle.srm_report.specs.Rows.{or_dash}
use Rattle.srm_report.specs.Tables.{lines_of}

-- the columns of the table of timers
abbrev pub timers_columns : List (List ℕ)
timers_columns = codes "time" ∷ codes "member" ∷ codes "cause" ∷ codes "ref" ∷ codes "c1" ∷ codes "c2" ∷ codes "d1"
    ∷ codes "d2" ∷ codes "ave_dup_req" ∷ codes "ave_req_delay" ∷ codes "ave_dup_rep" ∷ codes "ave_rep_delay" ∷ []

-- the fields of a row that tells of its member's intervals after the event: their four constants, and four averages,
-- `-` where there is none
abbrev pub timers_fields : Row → Intervals → List (List ℕ)
timers_fields r i =
    decimal r.key.time ∷ decimal r.key.member ∷ cause_word r.cause ∷ ref_text r.about
    ∷ decimal i.request.start ∷ decimal i.request.width ∷ decimal i.repair.start ∷ decimal i.repair.width
    ∷ or_dash decimal i.request.average_duplicates ∷ or_dash decimal i.request.average_delay
    ∷ or_dash decimal i.repair.average_duplicates ∷ or_dash decimal i.repair.average_delay ∷ []

-- the row of the table for a row of the trace, which has one where it tells of intervals
abbrev pub timers_rows : Row → List (List (List ℕ))
timers_rows r = option_map_or (λ i. timers_fields r i ∷ []) r.adapted []

-- how the table of timers lists rows
abbrev pub timers_form : Form
timers_form = record { header = row_text default_writer timers_columns; line = λ r. lines_of (timers_rows r) }

-- the table of timers of a trace
unfoldable pub timers_table : List Row → List ℕ
timers_table rows = text_in timers_form rows
