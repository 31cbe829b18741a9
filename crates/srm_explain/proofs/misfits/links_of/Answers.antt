use Rattle.std.proofs.Common.{rules, ◌≡◌, ◌∙◌, ◌-◌, sym}
use Rattle.srm_explain.proofs.Listed.{links_of_topology}
use Rattle.srm_explain.proofs.misfits.links_of.Goals as goal

pub returns-in-Some : goal.returns-in-Some
returns-in-Some c =
    let count : c.saturating_sub.result ≡ c.args.draft.now.nodes - 1 = search rules in
    count ∙ sym (links_of_topology c.args.draft.now c.in-Some.field-0 c.in-Some.is)
