use Rattle.std.proofs.Common.{◌≡◌, ℕ, ◌≤◌, ◌^◌, min, lit<, arith}
use Rattle.std.proofs.Math.Nat.{pow-le-pow_right}
use Rattle.srm_member.proofs.Doublings.{few_doublings}
use Rattle.srm_member.proofs.backoff.BackoffFactor.multiple.Goals as goal

-- three to the power of the lesser of a number and six is at most 729
few_triplings : (i j : ℕ) → j ≡ min i 6 → 3 ^ j ≤ 729
few_triplings i j s = let h : j ≤ 6 = omega arith in pow-le-pow_right {n = 3} (lit< tt) {i = j} {j = 6} h

pub pow-requires-in-Three : goal.pow-requires-in-Three
pow-requires-in-Three c = omega (arith, few_triplings c.args.i c.min-in-Three.result c.min-in-Three.ensures)

pub returns-in-Two-clause-bound : goal.returns-in-Two-clause-bound
returns-in-Two-clause-bound c = few_doublings c.args.i c.min.result c.pow.result c.min.ensures c.pow.ensures

pub returns-in-Three-clause-bound : goal.returns-in-Three-clause-bound
returns-in-Three-clause-bound c =
    omega (arith, few_triplings c.args.i c.min-in-Three.result c.min-in-Three.ensures, c.pow-in-Three.ensures)
