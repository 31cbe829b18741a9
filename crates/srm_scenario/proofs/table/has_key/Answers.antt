use Rattle.std.proofs.Common.{◌∙◌}
use Rattle.toml.specs.View.{view}
use Rattle.srm_scenario.specs.Keys.{name_of}
use Rattle.srm_scenario.proofs.Tables.{looked_up, is_some-map}
use Rattle.srm_scenario.proofs.table.has_key.Goals as goal

pub returns : goal.returns
returns c =
    let found = looked_up c.get.result c.name.result.now (name_of c.args.key) c.args.table.now.entries c.name.ensures c.get.ensures.value in
    c.is_some.ensures ∙ is_some-map (λ x. view x.now) c.get.result _ found
