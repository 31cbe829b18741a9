use Rattle.std.proofs.Common.{rules, ◌≡◌, Some, inl, string_bytes}
use Rattle.toml.specs.Parse.{parse_document}
use Rattle.toml.specs.View.{table_view}
use Rattle.srm_scenario.specs.Drafts.{IsDraft}
use Rattle.srm_explain.specs.Explanations.{written_in, TellsBroken}
use Rattle.srm_explain.proofs.explanation.explain_misfit.Goals as goal

pub returns : goal.returns
returns c =
    let top = table_view c.in-Ok.top in
    let l = c.in-Ok-read.draft in
    let ds = written_in c.args.part top in
    let parsed : parse_document c.args.text.now ≡ Some top = search rules in
    let draft : IsDraft top l = search rules in
    let tells : TellsBroken l c.args.fault ds c.args.place (string_bytes c.in-Some.told) = search rules in
    inl (top, parsed, (l, draft, tells))
