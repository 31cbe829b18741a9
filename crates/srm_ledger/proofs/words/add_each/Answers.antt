use Rattle.std.proofs.Common.{arith}
use Rattle.srm_ledger.proofs.Zips.{is_added}
use Rattle.srm_ledger.proofs.words.add_each.Goals as goal

pub returns : goal.returns
returns c = let inv = c.loop-i.invariant in is_added _ _ _ c.requires.long inv.0 (λ k lt. inv.1 k (omega arith))
