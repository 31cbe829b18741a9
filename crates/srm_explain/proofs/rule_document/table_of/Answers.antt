use Rattle.std.proofs.Common.{◌∙◌, ◌++◌, codes}
use Rattle.srm_explain.proofs.rule_document.table_of.Goals as goal

pub returns : goal.returns
returns c =
    c.in_ok-told.ensures.ok
    ∙ (λ i. codes "{" ++ (c.args.front.now ++ (codes ", \"keys\": [" ++ (c.in_ok-lines.ensures i ++ codes "]}"))))
