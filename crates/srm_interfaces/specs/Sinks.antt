-- Who takes the rows of a run as they come.
use Rattle.std.specs.Prelude.{◌<◌, ◌-◌, ◌^◌, ℕ, Result, Ok, Err}
use Rattle.srm_interfaces.specs.declared.sink.SinkFault.{SinkFault}
use Rattle.srm_interfaces.specs.declared.sink.SinkFault.TheVariants.{NoMemory, Stopped}
use Rattle.srm_interfaces.specs.declared.sink.Stage.{Stage}
use Rattle.srm_interfaces.specs.declared.sink.Stage.TheVariants.{Fresh, Live, Refused}

-- it may be asked to take rows
abbrev pub IsOpen : Stage → Type 0
IsOpen Fresh = Unit {0}
IsOpen Live = Unit {0}
IsOpen (Refused e) = ⊥

-- rows may be handed to a sink that stands so, and whose device failed so often
pub record IsReady (stage : Stage) (count : ℕ) : Type 0 where
  pub stands : IsOpen stage
  pub failures : count < 2 ^ 64 - 1

-- where a sink stands after this answer
abbrev pub stage_after : {A : Type 0} → Result A SinkFault → Stage
stage_after (Ok v) = Live
stage_after (Err e) = Refused e

-- how many failures of a sink's device this answer tells
abbrev pub stops_in : {A : Type 0} → Result A SinkFault → ℕ
stops_in (Ok v) = 0
stops_in (Err NoMemory) = 0
stops_in (Err (Stopped n)) = 1

-- ---- pieces

-- how many rows of a run that is not cut into windows are handed on at a time
abbrev pub most_rows : ℕ
most_rows = 32
