use Rattle.std.proofs.Common.{◌≡◌, length, take, drop, sym, subst, arith, length-drop, take-append-drop}
use Rattle.std.proofs.lemmas.List.{length-take-le}
use Rattle.srm_report.specs.Standings.{GrewBy}
use Rattle.srm_report.specs.SinkLaws.{count_cut}
use Rattle.srm_program.proofs.replications.put.Goals as goal

pub returns-in-Err-clause-taken : goal.returns-in-Err-clause-taken
returns-in-Err-clause-taken g c =
    let text = c.args.text.now in
    let n = c.in-Err.field-0.written in
    let part = c.in-Err.ensures.part in
    let long : length (take n text) ≡ n = length-take-le n text (omega (arith, part)) in (
      take n text,
      drop n text,
      sym (take-append-drop n text),
      omega (arith, length-drop n text, part),
      c.in-Err.ensures.taken,
      subst (λ k. GrewBy c.args.written.now k c.saturating_add-written.result) (sym long)
          (count_cut c.args.written.now n c.saturating_add-written.result c.saturating_add-written.ensures),
    )
