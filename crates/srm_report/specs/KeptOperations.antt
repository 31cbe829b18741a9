-- What is kept of one member for the table of operations.
use Rattle.std.specs.Prelude.{◌≡◌, Bool, List, ◌++◌}
use Rattle.std.specs.List.{list_any}
use Rattle.srm_member.specs.declared.row.Row.{Row}
use Rattle.srm_member.specs.Kinds.{is_leave}
use Rattle.srm_net.specs.declared.packet.Name.{Name}
use Rattle.srm_report.specs.declared.losses.course.Course.{Course}
use Rattle.srm_report.specs.declared.losses.loss.Loss.{Loss}
use Rattle.srm_report.specs.declared.operations.member_operations.MemberOperations.{MemberOperations}
use Rattle.srm_report.specs.declared.operations.sent_for_name.SentForName.{SentForName}
use Rattle.srm_report.specs.Courses.{LoseInTurn, TellLosses}
use Rattle.srm_report.specs.Sendings.{TellLeft, TellSent}
use Rattle.srm_report.specs.Taking.{TakesIn}

-- exactly this is what a member's rows tell of operations: of its losses, if it loses in turn in them and in whatever
-- comes after; of what it sent; and whether it left
pub record KeepsOperations (rows : List Row) (k : MemberOperations) : Type 0 where
  pub lost : (after : List Row) → LoseInTurn (rows ++ after) → TellLosses rows k.losses
  pub asked : TellSent rows k.sent
  pub gone : k.left ≡ list_any (λ r. is_leave r.cause) rows

-- these rows were taken in, after those before
abbrev pub KeepsMore : MemberOperations → List Row → MemberOperations → Type 0
KeepsMore = TakesIn KeepsOperations

-- these are the losses of exactly these rows, what they tell was sent, and who left
pub record TellOperations (rows : List Row) (losses : List (Loss × Course)) (sent : List (Name × SentForName))
    (left : List Bool) : Type 0 where
  pub lost : TellLosses rows losses
  pub asked : TellSent rows sent
  pub gone : TellLeft rows left
