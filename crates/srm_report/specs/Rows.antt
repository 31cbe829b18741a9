-- Which rows of a trace a table counts.
use Rattle.std.specs.Prelude.{ℕ, Bool, ◌&&◌, List, Option, Some, None, codes}
use Rattle.std.specs.List.{find, count_by}
use Rattle.std.specs.Option.{option_map}
use Rattle.std.specs.Ordering.{eq_by_cmp}
use Rattle.srm_net.specs.declared.packet.Name.{Name}
use Rattle.srm_net.specs.Names.{name_cmp}
use Rattle.srm_member.specs.declared.row.Word.{Word}
use Rattle.srm_member.specs.declared.row.Row.{Row}
use Rattle.srm_member.specs.Kinds.{is_sent}

-- ---- names

-- whether two names are one
abbrev pub is_name : Name → Name → Bool
is_name n k = eq_by_cmp name_cmp n k

-- ---- rows

-- how many of the rows are events of this kind in which a packet was sent
abbrev pub sent_rows : (Word → Bool) → List Row → ℕ
sent_rows is_kind rows = count_by (λ r. is_kind r.cause && is_sent r.told) rows

-- when the first row of which this holds is, if there is one
abbrev pub time_of_first : (Row → Bool) → List Row → Option ℕ
time_of_first is_one rows = option_map (λ r. r.key.time) (find is_one rows)

-- ---- fields

-- a field of what is there, or `-`
abbrev pub or_dash : {A : Type 0} → (A → List ℕ) → Option A → List ℕ
or_dash text None = codes "-"
or_dash text (Some x) = text x
