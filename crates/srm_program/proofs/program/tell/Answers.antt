use Rattle.std.proofs.Common.{◌≡◌, ◌∙◌, sym, inl, inr, codes}
use Rattle.srm_program.specs.RefusalLines.{line_of_fault}
use Rattle.srm_program.proofs.CommandLines.{line_of_refused_words}
use Rattle.srm_program.proofs.program.tell.Goals as goal

pub returns-then-status_of-eq-REFUSED_WORDS : goal.returns-then-status_of-eq-REFUSED_WORDS
returns-then-status_of-eq-REFUSED_WORDS g c =
    let is : line_of_fault c.args.fault.now ≡ codes "command line refused" =
    line_of_refused_words c.args.fault.now (sym c.status_of.ensures ∙ c.if-status_of-eq-REFUSED_WORDS.true) in
    inl (rw is c.put_both.ensures)

pub returns-in-Err : goal.returns-in-Err
returns-in-Err g c =
    inr (λ e. c.if-status_of-eq-REFUSED_WORDS.false (c.status_of.ensures ∙ e), c.put_line.ensures)
