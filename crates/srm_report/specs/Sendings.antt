-- Requests and repairs that are counted as the rows come, and members that leave.
use Rattle.std.specs.Prelude.{◌≡◌, ℕ, ◌+◌, Bool, false, T, List, [], Option, Some, None, cond, get_or}
use Rattle.std.specs.Option.{unwrap_or}
use Rattle.std.specs.FinMap.Entries.{find, is_sorted}
use Rattle.srm_net.specs.declared.packet.Name.{Name}
use Rattle.srm_net.specs.Names.{name_cmp}
use Rattle.srm_member.specs.declared.row.Row.{Row}
use Rattle.srm_member.specs.Kinds.{is_ask}
use Rattle.srm_report.specs.declared.operations.sent_for_name.SentForName.{SentForName}
use Rattle.srm_report.specs.Operations.{has_left, sending_of, sends_for, sooner}

-- when a request for the name was sent, if this row tells of one
abbrev pub asked_in : Name → Row → Option ℕ
asked_in n r = cond (sends_for is_ask n r) (Some r.key.time) None

-- what these entries tell of a name
abbrev pub sending_in : List (Name × SentForName) → Name → SentForName
sending_in es n = unwrap_or (find name_cmp n es) (sending_of [] n)

-- the entries tell what was sent for each name, as these rows do, the names rising
pub record TellSent (rows : List Row) (es : List (Name × SentForName)) : Type 0 where
  pub sorted : T (is_sorted name_cmp es)
  pub sent : (n : Name) → sending_in es n ≡ sending_of rows n

-- the list tells of each member whether it left, as these rows do
abbrev pub TellLeft : List Row → List Bool → Type 0
TellLeft rows left = (m : ℕ) → get_or left m false ≡ has_left rows m

-- what was sent, after a request at this time; and after a repair
abbrev pub requested : ℕ → SentForName → SentForName
requested at s = record s { asked = sooner s.asked (Some at); requests = s.requests + 1 }

abbrev pub repaired : SentForName → SentForName
repaired s = record s { repairs = s.repairs + 1 }

-- what was sent in some rows and what was sent in others, together
abbrev pub together : SentForName → SentForName → SentForName
together a b = record {
  asked = sooner a.asked b.asked;
  requests = a.requests + b.requests;
  repairs = a.repairs + b.repairs;
}
