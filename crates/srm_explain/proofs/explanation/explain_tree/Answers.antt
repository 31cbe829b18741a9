use Rattle.std.proofs.Common.{rules, ◌≡◌, Bool, Some, inl, string_bytes, subst}
use Rattle.std.specs.List.{AllByRecursion}
use Rattle.toml.specs.Parse.{parse_document}
use Rattle.toml.specs.View.{table_view}
use Rattle.srm_scenario.specs.Drafts.{IsDraft}
use Rattle.srm_explain.specs.Flaws.{IsFlaw}
use Rattle.srm_explain.specs.Misfits.{links_of}
use Rattle.srm_explain.specs.Explanations.{TellsFlaws}
use Rattle.srm_explain.proofs.explanation.explain_tree.Goals as goal

pub returns : goal.returns
returns c =
    let top = table_view c.in-Ok.top in
    let l = c.in-Ok-read.draft in
    let flaws = c.in_ok-flaws.flaws.items in
    let parsed : parse_document c.args.text.now ≡ Some top = search rules in
    let draft : IsDraft top l = search rules in
    let found : AllByRecursion (IsFlaw c.says-parents.result l.nodes (links_of l)) flaws = search rules in
    let all = subst (λ (b : Bool). AllByRecursion (IsFlaw b l.nodes (links_of l)) flaws) c.says-parents.ensures found in
    let tells : TellsFlaws flaws (string_bytes c.in-Some.told) = search rules in
    inl (top, parsed, (l, draft, flaws, all, tells))
