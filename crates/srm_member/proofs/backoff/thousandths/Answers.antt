use Rattle.std.proofs.Common.{◌≡◌, ℕ, ◌+◌, ◌*◌, ◌/◌, ◌%◌, ap, sym, ◌∙◌, lit<, arith}
use Rattle.std.proofs.Math.Nat.{mul-add-div_right}
use Rattle.std.proofs.lemmas.Nat.{div-add-mod'}
use Rattle.srm_member.proofs.backoff.thousandths.Goals as goal

-- whole thousands first
by_thousands : (p d : ℕ) → p * (d / 1000) + p * (d % 1000) / 1000 ≡ p * d / 1000
by_thousands p d =
    let whole : p * (d / 1000) * 1000 + p * (d % 1000) ≡ p * d = omega (arith, ap (λ n. p * n) (div-add-mod' d 1000)) in
    sym (mul-add-div_right {m = 1000} (lit< tt) (p * (d / 1000)) (p * (d % 1000))) ∙ ap (λ n. n / 1000) whole

pub returns-clause-value : goal.returns-clause-value
returns-clause-value c = by_thousands (c.args.n * c.args.x) c.args.d
