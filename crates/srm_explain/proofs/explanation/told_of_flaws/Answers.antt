use Rattle.std.proofs.Common.{rules, ◌∙◌, ◌++◌, ◌<◌, ℕ, List, length, ap, string_bytes}
use Rattle.srm_explain.proofs.Listed.{not_empty}
use Rattle.srm_explain.proofs.explanation.told_of_flaws.Goals as goal

pub returns : goal.returns
returns c =
    let some : 0 < length c.args.flaws.now = search rules in
    let told = c.in_ok-told.ensures.ok ∙ ap (λ (n : List ℕ). string_bytes c.in_ok-picture.picture ++ n) c.in_ok-notes.ensures in
    (not_empty c.args.flaws.now some, string_bytes c.in_ok-picture.picture, told)
