-- At most ten doublings.
use Rattle.std.proofs.Common.{◌≡◌, ℕ, ◌≤◌, ◌^◌, min, subst, sym, arith}
use Rattle.std.proofs.Math.Pow.{pow_mono}

-- two to the power of the lesser of a number and ten is at most 1,024
pub few_doublings : (i j n : ℕ) → j ≡ min i 10 → n ≡ 2 ^ j → n ≤ 1024
few_doublings i j n s e =
    let P : ℕ → Type 0 = λ k. k ≤ 1024 in
    let h : j ≤ 10 = omega arith in
    subst P (sym e) (pow_mono {i = j} {j = 10} h)
