use Rattle.std.proofs.Common.{◌≡◌, ◌++◌}
use Rattle.srm_report.proofs.losses.by_loss.ByLoss.entries.Given as goal

-- the entries so far, and those that are left
abbrev pub invariant-loop-loss : goal.invariant-loop-loss
invariant-loop-loss g l = l.entries.items ++ l.loss-iterator ≡ l.self
