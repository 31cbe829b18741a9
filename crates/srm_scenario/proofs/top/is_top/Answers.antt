use Rattle.std.proofs.Common.{List, ◌∙◌, ap}
use Rattle.std.specs.Prelude.{◌==◌, if◌then◌else◌}
use Rattle.toml.specs.View.{table_view}
use Rattle.srm_scenario.specs.declared.rule.Rule.{Rule}
use Rattle.srm_scenario.specs.declared.version.Version.TheVariants.{One, Two, Three, Four, Five}
use Rattle.srm_scenario.specs.Rules.{fits_rules, top_rules}
use Rattle.srm_scenario.proofs.top.is_top.Goals as goal

pub returns : goal.returns
returns c =
    let version = c.of-version.ensures ∙ ap (λ n.
    if n == 5 then Five else if n == 4 then Four else if n == 3 then Three else if n == 2 then Two else One)
    c.number.ensures in
    c.fits_rules.ensures ∙ ap (λ (rs : List Rule). fits_rules rs (table_view c.args.table.now))
    (c.top_rules.ensures ∙ (λ i. top_rules (version i) (c.constants_of.ensures i) (c.form_of.ensures i)))
