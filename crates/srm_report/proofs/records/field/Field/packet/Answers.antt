use Rattle.std.proofs.Common.{◌≤◌, length, decimal, rules, arith}
use Rattle.std.proofs.lemmas.Fmt.{length-decimal-le}
use Rattle.srm_report.proofs.records.field.Field.packet.Goals as goal

pub behind-requires : goal.behind-requires
behind-requires c =
    let short : length (decimal c.args.packet.count) ≤ 20 = search (rules, length-decimal-le 20) in
    rw c.number.ensures (omega arith)
