-- Kinds of events, and results, as a table counts them.
use Rattle.std.specs.Prelude.{Bool, true, false}
use Rattle.srm_member.specs.declared.told.Told.{Told}
use Rattle.srm_member.specs.declared.told.Told.TheVariants.{Fixed, Sent}
use Rattle.srm_member.specs.declared.row.Word.{Word}
use Rattle.srm_member.specs.declared.row.Word.TheVariants as word

-- ---- kinds of events

abbrev pub is_join : Word → Bool
is_join word.Join = true
is_join _ = false

abbrev pub is_leave : Word → Bool
is_leave word.Leave = true
is_leave _ = false

abbrev pub is_draw : Word → Bool
is_draw word.Draw = true
is_draw _ = false

abbrev pub is_ask : Word → Bool
is_ask word.Ask = true
is_ask _ = false

abbrev pub is_answer : Word → Bool
is_answer word.Answer = true
is_answer _ = false

abbrev pub is_report : Word → Bool
is_report word.Report = true
is_report _ = false

-- a packet arrives
abbrev pub is_arrival : Word → Bool
is_arrival word.Data = true
is_arrival word.Request = true
is_arrival word.Repair = true
is_arrival word.Session = true
is_arrival _ = false

-- ---- results

abbrev pub is_sent : Told → Bool
is_sent Sent = true
is_sent _ = false

abbrev pub is_fixed : Told → Bool
is_fixed Fixed = true
is_fixed _ = false
