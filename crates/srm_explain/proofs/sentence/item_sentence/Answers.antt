use Rattle.std.proofs.Common.{◌∙◌, ◌++◌, codes}
use Rattle.srm_explain.specs.Findings.{item_is_none}
use Rattle.srm_explain.proofs.sentence.item_sentence.Goals as goal

pub returns : goal.returns
returns c =
    c.in_ok-told.ensures.ok
    ∙ (λ i. c.name-name.ensures i ++ (codes " is " ++ (c.in_ok-allowed.ensures i ++ item_is_none c.args.item)))
