use Rattle.std.proofs.Common.{◌∙◌}
use Rattle.toml.specs.View.{view}
use Rattle.srm_scenario.proofs.Tables.{stand_for_few}
use Rattle.srm_scenario.proofs.table.are_repeated.Goals as goal

pub returns-in-Some : goal.returns-in-Some
returns-in-Some c =
    c.make_at_most.ensures ∙ stand_for_few c.args.most (view c.args.value.now) c.in-Some.values.now c.in-Some.ensures
