-- Whole runs, and a short form of their rows.
use Rattle.std.specs.Prelude.{◌≡◌, ℕ, suc, List, [], ◌∷◌, map, Option, Some, None, length}
use Rattle.std.specs.List.{count_by, filter}
use Rattle.srm_net.specs.declared.packet.PacketId.{PacketId}
use Rattle.srm_net.specs.declared.packet.Name.{Name}
use Rattle.srm_net.specs.declared.packet.Packet.{Packet}
use Rattle.srm_scenario.specs.declared.parts.Constants.{Constants}
use Rattle.srm_scenario.specs.Plain.{PlainScenario}
use Rattle.srm_member.specs.declared.row.Word.{Word}
use Rattle.srm_member.specs.declared.row.About.{About}
use Rattle.srm_member.specs.declared.row.About.TheVariants as about
use Rattle.srm_member.specs.declared.row.Row.{Row}
use Rattle.srm_member.specs.declared.told.Told.{Told}
use Rattle.srm_member.specs.declared.exit.Exit.{Exit}
use Rattle.srm_member.specs.Record.{MemberState}
use Rattle.srm_member.specs.AdaptingLaws.{is_of_recovery}
use Rattle.srm_member.specs.declared.fixed.Fixed.{Fixed}
use Rattle.srm_cell.specs.Setting.{Setting, setting_of}
use Rattle.srm_cell.specs.Cells.{PlainCell, Idle}
use Rattle.srm_cell.specs.Crossings.{crossings, packets_of}
use Rattle.srm_model.specs.Handed.{is_about}
use Rattle.srm_model.specs.World.{World, step, last_world, opening, exits_of}

-- what an event is about, in short: nothing, a packet by its identity, or a name
pub data Subject : Type 0 where
  Nothing : Subject
  Of : (packet : PacketId) → Subject
  Named : (name : Name) → Subject

abbrev pub subject_of : About → Subject
subject_of about.Nothing = Nothing
subject_of (about.Of packet) = Of packet.id
subject_of (about.Named name) = Named name

-- a row in short: its time, its member, its kind, what it is about, what was told, how many names were lost, and the
-- packet sent
pub record Brief : Type 0 where
  pub time : ℕ
  pub member : ℕ
  pub cause : Word
  pub about : Subject
  pub told : Told
  pub lost : ℕ
  pub sent : Option PacketId

-- an event that was handled: when, by whom, its kind, what it is about, what was told, how many names were lost, and
-- the packet sent
abbrev pub handled : ℕ → ℕ → Word → Subject → Told → ℕ → Option PacketId → Brief
handled time member cause about told lost sent =
    record { time = time; member = member; cause = cause; about = about; told = told; lost = lost; sent = sent }

-- a packet, by its sender and count
abbrev pub packet : ℕ → ℕ → PacketId
packet sender count = record { sender = sender; count = count }

-- a name, by its source, page and number
abbrev pub name : ℕ → ℕ → ℕ → Name
name source page number = record { source = source; page = page; number = number }

-- the identity of a packet, if there is one
abbrev pub id_of : Option Packet → Option PacketId
id_of None = None
id_of (Some p) = Some p.id

-- a row, in short
abbrev pub brief : Row → Brief
brief r = handled r.key.time r.key.member r.cause (subject_of r.about) r.told (length r.lost) (id_of r.sent)

-- the world in which the sequential run of a scenario and a seed ends, if it does within a hundred steps
unfoldable pub world_at_end : PlainScenario → ℕ → World
world_at_end p seed = let s = setting_of p seed in last_world s 100 (opening s)

-- nothing is pending in it: the run is whole
abbrev pub IsWhole : PlainScenario → ℕ → Type 0
IsWhole p seed = step (setting_of p seed) (world_at_end p seed) ≡ Idle

-- its trace, in short
unfoldable pub whole_trace : PlainScenario → ℕ → List Brief
whole_trace p seed = map brief (world_at_end p seed).trace

-- the crossings of its trace
unfoldable pub whole_totals : PlainScenario → ℕ → List ℕ
whole_totals p seed = crossings (setting_of p seed).traffic (world_at_end p seed).trace

-- how often a packet was heard, by its arrivals in these rows
abbrev pub heard_count : PacketId → List Row → ℕ
heard_count p rows = count_by (λ r. is_about p r.about) rows

-- the requests and repairs that these rows' members sent, and how often each was heard
abbrev pub recovery_in : List Row → List (Packet × ℕ)
recovery_in rows = map (λ p. (p, heard_count p.id rows)) (filter (λ p. is_of_recovery p.body) (packets_of rows))

-- those of its trace
unfoldable pub whole_recovery : PlainScenario → ℕ → List (Packet × ℕ)
whole_recovery p seed = recovery_in (world_at_end p seed).trace

-- what its members end with
unfoldable pub whole_exits : PlainScenario → ℕ → List Exit
whole_exits p seed = exits_of (world_at_end p seed)

-- the constants of a member's timers; of one that is gone its first ones
abbrev pub constants_at : Fixed → Option MemberState → Constants
constants_at f (Some m) = record {
  c1 = m.request_interval.start;
  c2 = m.request_interval.width;
  d1 = m.repair_interval.start;
  d2 = m.repair_interval.width;
}
constants_at f None = record { c1 = f.c1.first; c2 = f.c2.first; d1 = f.d1.first; d2 = f.d2.first }

-- those of member m, of member m + 1 and so on, in these cells
abbrev pub constants_from : Setting → ℕ → List PlainCell → List Constants
constants_from s m [] = []
constants_from s m (c ∷ cs) = constants_at (s.fixed m) c.holds ∷ constants_from s (suc m) cs

-- those of the members of a run at its end
unfoldable pub whole_constants : PlainScenario → ℕ → List Constants
whole_constants p seed = constants_from (setting_of p seed) 0 (world_at_end p seed).cells
