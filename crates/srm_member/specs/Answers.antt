-- What a member answers to a cause, and how it stands in memory.
use Rattle.std.specs.Prelude.{List, [], Option, Some, None}
use Rattle.std.specs.Global.{Box}
use Rattle.srm_net.specs.declared.packet.Name.{Name}
use Rattle.srm_net.specs.declared.packet.Body.{Body}
use Rattle.srm_member.specs.declared.told.Told.{Told}
use Rattle.srm_member.specs.declared.intervals.Intervals.{Intervals}
use Rattle.srm_member.specs.declared.rare.Rare.{Rare}

-- what came of a cause, the names that are lost, what is sent, and what is told of intervals
pub record Answer : Type 0 where
  pub told : Told
  pub lost : List Name
  pub body : Option Body
  pub adapted : Option Intervals

-- the answer of this, and of what is in a box, if there is one
abbrev pub answer_of : Told → Option (Box Rare) → Answer
answer_of told None = record { told = told; lost = []; body = None; adapted = None }
answer_of told (Some b) =
    record { told = told; lost = b.value.lost; body = b.value.body; adapted = b.value.adapted }
