use Rattle.std.proofs.Common.{◌∙◌, ◌++◌, codes}
use Rattle.srm_explain.specs.Findings.{copy_has}
use Rattle.srm_explain.proofs.sentence.passed_sentence.Goals as goal

pub returns : goal.returns
returns c =
    c.in_ok-told.ensures.ok
    ∙ (λ i. c.name-name.ensures i ++ (codes " is " ++ (c.in_ok-allowed.ensures i ++ copy_has c.args.copy c.args.number)))
