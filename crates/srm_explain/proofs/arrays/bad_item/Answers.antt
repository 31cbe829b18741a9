use Rattle.std.proofs.Common.{◌∙◌, sym}
use Rattle.toml.specs.View.{view}
use Rattle.srm_explain.proofs.Values.{value_at}
use Rattle.srm_explain.proofs.arrays.bad_item.Goals as goal

pub returns-then-not-is_item : goal.returns-then-not-is_item
returns-then-not-is_item c =
    let v = c.index-values-item.result in
    let at = value_at c.args.values.now c.loop-item.item v c.loop-item-test.true c.index-values-item.is in
    (view v, at, sym c.is_item.ensures ∙ c.if-not-is_item.true)
