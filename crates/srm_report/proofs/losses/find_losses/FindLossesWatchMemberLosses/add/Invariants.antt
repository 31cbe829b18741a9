use Rattle.std.proofs.Common.{take}
use Rattle.srm_report.specs.KeptLosses.{FindsMore}
use Rattle.srm_report.proofs.losses.find_losses.FindLossesWatchMemberLosses.add.Given as goal

-- the losses of the rows so far were found
abbrev pub invariant-loop-row : goal.invariant-loop-row
invariant-loop-row l = FindsMore l.fn.kept (take l.row-index l.rows) l.kept
