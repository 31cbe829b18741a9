use Rattle.std.proofs.Common.{arith}
use Rattle.srm_ledger.proofs.Zips.{is_larger}
use Rattle.srm_ledger.proofs.words.raise_each.Goals as goal

pub returns : goal.returns
returns c = let inv = c.loop-i.invariant in is_larger _ _ _ c.requires inv.0 (λ k lt. inv.1 k (omega arith))
