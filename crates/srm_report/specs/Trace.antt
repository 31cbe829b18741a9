-- The trace of a run as text: a header, and a line for each row.
use Rattle.std.specs.Prelude.{ℕ, List, [], ◌∷◌, ◌++◌, length, codes, decimal}
use Rattle.csv.specs.Writing.{row_text, default_writer}
use Rattle.srm_net.specs.declared.packet.PacketId.{PacketId}
use Rattle.srm_net.specs.declared.packet.Name.{Name}
use Rattle.srm_member.specs.declared.told.Told.{Told}
use Rattle.srm_member.specs.declared.told.Told.TheVariants as told
use Rattle.srm_member.specs.declared.row.Word.{Word}
use Rattle.srm_member.specs.declared.row.Word.TheVariants as word
use Rattle.srm_member.specs.declared.row.About.{About}
use Rattle.srm_member.specs.declared.row.About.TheVariants.{Nothing, Of, Named}
use Rattle.srm_member.specs.declared.row.Row.{Row}
use Rattle.srm_report.specs.Listings.{Form, text_in}
use Rattle.srm_report.specs.Rows.{or_dash}

-- the word of an event's kind
abbrev pub cause_word : Word → List ℕ
cause_word word.Join = codes "join"
cause_word word.Data = codes "data"
cause_word word.Request = codes "request"
cause_word word.Repair = codes "repair"
cause_word word.Session = codes "session"
cause_word word.Ask = codes "ask"
cause_word word.Answer = codes "answer"
cause_word word.Draw = codes "draw"
cause_word word.Report = codes "report"
cause_word word.Leave = codes "leave"

-- the word of what came of an event
abbrev pub told_word : Told → List ℕ
told_word told.Entered = codes "in"
told_word told.Parted = codes "out"
told_word told.Fresh = codes "fresh"
told_word told.Fixed = codes "fixed"
told_word told.Again = codes "again"
told_word told.Skip = codes "skip"
told_word told.Rest = codes "rest"
told_word told.Busy = codes "busy"
told_word told.Plan = codes "plan"
told_word told.Hold = codes "hold"
told_word told.Back = codes "back"
told_word told.Heard = codes "told"
told_word told.Sent = codes "sent"

-- a packet as `sender:count`
abbrev pub packet_text : PacketId → List ℕ
packet_text p = decimal p.sender ++ codes ":" ++ decimal p.count

-- a name as `source/page/number`
abbrev pub name_text : Name → List ℕ
name_text n = decimal n.source ++ codes "/" ++ decimal n.page ++ codes "/" ++ decimal n.number

-- what an event is about, `-` where that is nothing
abbrev pub ref_text : About → List ℕ
ref_text Nothing = codes "-"
ref_text (Of packet) = packet_text packet.id
ref_text (Named name) = name_text name

-- the columns of a trace
abbrev pub trace_columns : List (List ℕ)
trace_columns = codes "time" ∷ codes "member" ∷ codes "cause" ∷ codes "ref" ∷ codes "result" ∷ codes "lost"
    ∷ codes "sent" ∷ []

-- the fields of a row of a trace
abbrev pub trace_fields : Row → List (List ℕ)
trace_fields r = decimal r.key.time ∷ decimal r.key.member ∷ cause_word r.cause ∷ ref_text r.about ∷ told_word r.told
    ∷ decimal (length r.lost) ∷ or_dash (λ p. packet_text p.id) r.sent ∷ []

-- how a trace lists rows: a line for each
abbrev pub trace_form : Form
trace_form = record {
  header = row_text default_writer trace_columns;
  line = λ r. row_text default_writer (trace_fields r);
}

-- the text of a trace: its header, and then a line for each row
unfoldable pub trace_of_rows : List Row → List ℕ
trace_of_rows rows = text_in trace_form rows
