use Rattle.std.proofs.Common.{ℕ, ◌≤◌, length, length-append, decimal, rules, arith}
use Rattle.std.proofs.lemmas.Fmt.{length-decimal-le}
use Rattle.srm_report.proofs.records.field.Field.name.Goals as goal

pub behind-requires : goal.behind-requires
behind-requires c =
    let short : length (decimal c.from.result) ≤ 20 = search (rules, length-decimal-le 20) in
    rw c.number.ensures (omega arith)

pub behind-requires-2 : goal.behind-requires-2
behind-requires-2 c =
    let number : length (decimal c.from.result) ≤ 20 = search (rules, length-decimal-le 20) in
    let page : length (decimal c.from-2.result) ≤ 20 = search (rules, length-decimal-le 20) in
    rw (c.behind.ensures, c.number.ensures) (omega (arith, length-append {A = ℕ}))
