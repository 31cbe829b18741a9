-- The table of members: of each, what its rows say.
use Rattle.std.specs.Prelude.{ℕ, ◌+◌, ◌-◌, List, [], ◌∷◌, length, codes, decimal}
use Rattle.std.specs.List.{count_by, sum_by}
use Rattle.srm_member.specs.ByMember.{rows_of_member}
use Rattle.srm_net.specs.declared.role.Role.{Role}
use Rattle.srm_net.specs.declared.role.Role.TheVariants.{Sender, Receiver, Late, Listener}
use Rattle.srm_scenario.specs.declared.parts.MemberSpec.{MemberSpec}
use Rattle.srm_scenario.specs.Plain.{PlainScenario}
use Rattle.srm_member.specs.declared.row.Row.{Row}
use Rattle.srm_member.specs.Kinds.{is_join, is_leave, is_draw, is_ask, is_answer, is_report, is_arrival, is_fixed}
use Rattle.srm_report.specs.declared.members.counts.Counts.{Counts}
use Rattle.srm_report.specs.Rows.{or_dash, sent_rows, time_of_first}
use Rattle.srm_report.specs.Tables.{table_lines}

-- the word of a role
abbrev pub role_word : Role → List ℕ
role_word Sender = codes "sender"
role_word Receiver = codes "receiver"
role_word Late = codes "late"
role_word Listener = codes "listener"

-- what the rows of one member say of it: when it joined and left; how often it drew; how many packets it heard; how
-- many names it lost, and how many of these it fixed; and how many requests, repairs and session messages it sent
unfoldable pub counts_of : List Row → Counts
counts_of rows = record {
  joined = time_of_first (λ r. is_join r.cause) rows;
  left = time_of_first (λ r. is_leave r.cause) rows;
  drawn = sent_rows is_draw rows;
  heard = count_by (λ r. is_arrival r.cause) rows;
  lost = sum_by (λ r. length r.lost) rows;
  fixed = count_by (λ r. is_fixed r.told) rows;
  requests = sent_rows is_ask rows;
  repairs = sent_rows is_answer rows;
  sessions = sent_rows is_report rows;
}

-- the columns of the table
abbrev pub member_columns : List (List ℕ)
member_columns =
    codes "member" ∷ codes "role" ∷ codes "node" ∷ codes "joined" ∷ codes "left" ∷ codes "drawn" ∷ codes "heard"
    ∷ codes "lost" ∷ codes "fixed" ∷ codes "open" ∷ codes "requests" ∷ codes "repairs" ∷ codes "sessions" ∷ []

-- the row of member m. What is open it lost and has not fixed
abbrev pub member_fields : ℕ → MemberSpec → Counts → List (List ℕ)
member_fields m k c =
    decimal m ∷ role_word k.role ∷ decimal k.node ∷ or_dash decimal c.joined ∷ or_dash decimal c.left
    ∷ decimal c.drawn ∷ decimal c.heard ∷ decimal c.lost ∷ decimal c.fixed ∷ decimal (c.lost - c.fixed)
    ∷ decimal c.requests ∷ decimal c.repairs ∷ decimal c.sessions ∷ []

-- the rows of these members, the first of which is member m
abbrev pub member_rows : List Row → ℕ → List MemberSpec → List (List (List ℕ))
member_rows rows m [] = []
member_rows rows m (k ∷ ks) = member_fields m k (counts_of (rows_of_member m rows)) ∷ member_rows rows (m + 1) ks

-- the table of a scenario's members that left these rows
unfoldable pub members_table : PlainScenario → List Row → List ℕ
members_table s rows = table_lines member_columns (member_rows rows 0 s.members)
