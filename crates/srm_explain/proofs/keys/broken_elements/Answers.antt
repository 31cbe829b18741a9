use Rattle.toml.specs.View.{view}
use Rattle.srm_explain.proofs.Found.{array_breaks}
use Rattle.srm_explain.proofs.keys.broken_elements.Goals as goal

pub returns : goal.returns
returns c =
    array_breaks c.args.rule (view c.args.value.now) c.in_ok-values.values.now c.broken_array.result c.in_ok-values.ensures
    c.broken_array.ensures
