use Rattle.std.proofs.Common.{ℕ, ◌≡◌, ◌∙◌, ◌≤◌, ◌-◌, length, length-drop, length-set, decimal, ap, sym, rules, arith}
use Rattle.std.proofs.lemmas.Fmt.{length-decimal-le}
use Rattle.srm_report.proofs.records.field.Field.behind.Goals as goal

pub write_digits-start-requires : goal.write_digits-start-requires
write_digits-start-requires c =
    let short : length (decimal c.args.number) ≤ 20 = search (rules, length-decimal-le 20) in
    let room : length c.self.inside.bytes - c.self.inside.start ≡ length c.args.self =
    sym (length-drop c.self.inside.start c.self.inside.bytes) ∙ ap length c.self.view_is in
    (omega arith, omega (arith, length-set {A = ℕ}))
