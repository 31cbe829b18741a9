use Rattle.std.proofs.Common.{◌∙◌, ◌++◌, codes, decimal}
use Rattle.srm_explain.proofs.sentence.length_sentence.Goals as goal

pub returns : goal.returns
returns c =
    let many = codes "; these are " ++ decimal c.args.length in
    c.in_ok-told.ensures.ok ∙ (λ i. c.name-name.ensures i ++ (codes " is " ++ (c.in_ok-allowed.ensures i ++ many)))
