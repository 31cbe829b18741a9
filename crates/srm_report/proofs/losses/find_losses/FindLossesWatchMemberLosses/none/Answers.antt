use Rattle.std.proofs.Common.{[], refl, subst, sym}
use Rattle.srm_report.specs.Courses.{TellLosses}
use Rattle.srm_report.proofs.losses.find_losses.FindLossesWatchMemberLosses.none.Goals as goal

pub returns : goal.returns
returns c after o = subst (TellLosses []) (sym c.new.ensures) (record { sorted = tt; losses = refl; courses = λ k. refl })
