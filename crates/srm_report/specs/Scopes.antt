-- The table of scopes: each request and each repair that was sent, how far it went, and how many members heard it.
use Rattle.std.specs.Prelude.{ℕ, Bool, false, ◌&&◌, ◌||◌, List, [], ◌∷◌, map, Option, Some, None, cond, codes, decimal}
use Rattle.std.specs.List.{count_by, filter_map}
use Rattle.std.specs.Option.{option_map_or}
use Rattle.std.specs.Ordering.{eq_by_cmp}
use Rattle.srm_net.specs.declared.packet.Body.{Body}
use Rattle.srm_net.specs.declared.packet.Body.TheVariants.{Drawop, Request, Repair, Session}
use Rattle.srm_net.specs.declared.packet.Local.{Local}
use Rattle.srm_net.specs.declared.packet.Packet.{Packet}
use Rattle.srm_net.specs.declared.packet.PacketId.{PacketId}
use Rattle.srm_net.specs.Names.{id_cmp}
use Rattle.srm_net.specs.Scopes.{scope_of}
use Rattle.srm_member.specs.declared.row.About.{About}
use Rattle.srm_member.specs.declared.row.About.TheVariants.{Nothing, Of, Named}
use Rattle.srm_member.specs.declared.row.Row.{Row}
use Rattle.srm_member.specs.Kinds.{is_ask, is_answer, is_sent}
use Rattle.srm_report.specs.declared.scopes.scope_entry.ScopeEntry.{ScopeEntry}
use Rattle.srm_report.specs.Rows.{or_dash}
use Rattle.srm_report.specs.Tables.{table_lines}
use Rattle.srm_report.specs.Trace.{cause_word, name_text, packet_text}

-- ---- what was sent

-- whose request a repair answers, and how far that went, where it has a scope
abbrev pub local_in : Body → Option Local
local_in (Drawop n ink) = None
local_in (Request n scope) = None
local_in (Repair n ink local) = local
local_in (Session hs) = None

-- what a row tells of the packet that was sent in it, for the name that the row is about, if there are such
abbrev pub entry_about : Row → About → Option Packet → Option ScopeEntry
entry_about r (Named n) (Some p) = Some (record {
  key = r.key;
  cause = r.cause;
  name = n;
  sent = p.id;
  scope = scope_of p.body;
  local = local_in p.body;
})
entry_about r a o = None

-- the request or repair that was sent in a row: in the event of a timer, which tells `sent`
abbrev pub entry_of : Row → Option ScopeEntry
entry_of r = cond ((is_ask r.cause || is_answer r.cause) && is_sent r.told) (entry_about r r.about r.sent) None

-- ---- who heard it

-- the packet, where it carries a request or a repair
abbrev pub of_recovery : PacketId → Body → Option PacketId
of_recovery p (Drawop n ink) = None
of_recovery p (Request n scope) = Some p
of_recovery p (Repair n ink local) = Some p
of_recovery p (Session hs) = None

-- the request or repair that arrives in a row
abbrev pub heard_in : Row → Option PacketId
heard_in r = elim r.about [ Nothing ↦ None | Of p ↦ of_recovery p.id p.body | Named n ↦ None ]

-- whether this request or repair arrives in a row
abbrev pub hears : PacketId → Row → Bool
hears p r = option_map_or (eq_by_cmp id_cmp p) (heard_in r) false

-- ---- the table

-- the columns of the table
abbrev pub scope_columns : List (List ℕ)
scope_columns = codes "time" ∷ codes "member" ∷ codes "cause" ∷ codes "ref" ∷ codes "sent" ∷ codes "scope"
    ∷ codes "requester" ∷ codes "width" ∷ codes "heard" ∷ []

-- the fields of a request or a repair that so many members heard
abbrev pub scope_fields : ScopeEntry → ℕ → List (List ℕ)
scope_fields e heard =
    decimal e.key.time ∷ decimal e.key.member ∷ cause_word e.cause ∷ name_text e.name ∷ packet_text e.sent
    ∷ or_dash decimal e.scope ∷ or_dash (λ l. decimal l.requester) e.local ∷ or_dash (λ l. decimal l.width) e.local
    ∷ decimal heard ∷ []

-- the rows of the table, as these rows of a run tell: of each packet, in the order in which they were sent
abbrev pub scope_rows : List Row → List (List (List ℕ))
scope_rows rows = map (λ e. scope_fields e (count_by (hears e.sent) rows)) (filter_map entry_of rows)

-- the table of all requests and repairs that were sent
unfoldable pub scopes_table : List Row → List ℕ
scopes_table rows = table_lines scope_columns (scope_rows rows)
