-- What a row tells of intervals, as it stands in memory.
use Rattle.std.specs.Prelude.{Option, Some, None}
use Rattle.std.specs.Global.{Box}

-- what is in a box, if there is one
abbrev pub in_box : {A : Type 0} → Option (Box A) → Option A
in_box None = None
in_box (Some b) = Some b.value
