use Rattle.toml.specs.View.{view}
use Rattle.srm_scenario.proofs.Tables.{are_few}
use Rattle.srm_scenario.proofs.table.are_elements.Goals as goal

pub returns-in-Some : goal.returns-in-Some
returns-in-Some c = are_few c.args.most (view c.args.value.now) c.in-Some.values.now c.in-Some.ensures
