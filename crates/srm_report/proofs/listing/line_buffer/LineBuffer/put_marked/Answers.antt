use Rattle.std.proofs.Common.{◌≤◌, ◌∷◌, ◌++◌, ◌∙◌, length, decimal, ap, sym, rules, arith}
use Rattle.std.proofs.lemmas.Fmt.{decimal_digit, length-decimal-le}
use Rattle.srm_report.specs.Lines.{buffer_written}
use Rattle.srm_report.proofs.listing.line_buffer.LineBuffer.put_marked.Goals as goal

pub write_digits-self-requires : goal.write_digits-self-requires
write_digits-self-requires c =
    let short : length (decimal c.args.number) ≤ 20 = search (rules, length-decimal-le 20) in
    (omega arith, search rules)

pub put_byte-requires : goal.put_byte-requires
put_byte-requires c =
    let short : length (decimal c.args.number) ≤ 20 = search (rules, length-decimal-le 20) in
    omega arith

pub returns-then-number-lt10-clause-written : goal.returns-then-number-lt10-clause-written
returns-then-number-lt10-clause-written c =
    c.put_two.ensures.written
    ∙ ap (λ d. c.args.mark ∷ (d ++ buffer_written c.args.self.now)) (sym (decimal_digit c.args.number c.if-number-lt10.true))

pub returns-else-number-lt10-clause-room : goal.returns-else-number-lt10-clause-room
returns-else-number-lt10-clause-room c =
    let short : length (decimal c.args.number) ≤ 20 = search (rules, length-decimal-le 20) in
    omega arith
