-- Sinks in memory, and sinks that are handed rows merged.
use Rattle.std.specs.Prelude.{◌≡◌, Bool, true, false, List, ◌++◌}
use Rattle.srm_member.specs.declared.row.Row.{Row}
use Rattle.srm_interfaces.specs.declared.sink.SinkFault.TheVariants.{NoMemory}
use Rattle.srm_interfaces.specs.declared.sink.Stage.{Stage}
use Rattle.srm_interfaces.specs.declared.sink.Stage.TheVariants.{Refused}
use Rattle.srm_engine.specs.declared.kept_rows.KeptRows.{KeptRows}

-- the rows that a sink keeps
abbrev pub rows_kept : KeptRows → List Row
rows_kept k = k.rows.items

-- where it stands
abbrev pub stage_of_kept : KeptRows → Stage
stage_of_kept k = k.stage

-- it keeps these rows besides
abbrev pub Keeps : KeptRows → List Row → KeptRows → Type 0
Keeps a xs b = rows_kept b ≡ rows_kept a ++ xs

-- it keeps a front of these rows besides
abbrev pub KeepsFront : KeptRows → List Row → KeptRows → Type 0
KeepsFront a xs b = (front rest : List Row) × (xs ≡ front ++ rest) × Keeps a front b

-- how a sink stands that is handed rows merged, where memory was refused to a merge or not
abbrev pub stage_merged : Bool → Stage → Stage
stage_merged true at = Refused NoMemory
stage_merged false at = at
