-- What is kept of the losses of one member.
use Rattle.std.specs.Prelude.{List, ◌++◌}
use Rattle.srm_member.specs.declared.row.Row.{Row}
use Rattle.srm_report.specs.declared.losses.member_losses.MemberLosses.{MemberLosses}
use Rattle.srm_report.specs.Courses.{LoseInTurn, TellLosses}
use Rattle.srm_report.specs.Taking.{TakesIn}

-- exactly the losses of these rows were found, if members lose in turn in them and in whatever comes after
abbrev pub KeepsLosses : List Row → MemberLosses → Type 0
KeepsLosses rows k = (after : List Row) → LoseInTurn (rows ++ after) → TellLosses rows k.losses

-- these rows were taken in, after those before
abbrev pub FindsMore : MemberLosses → List Row → MemberLosses → Type 0
FindsMore = TakesIn KeepsLosses
