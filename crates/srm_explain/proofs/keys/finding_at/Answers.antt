use Rattle.std.proofs.Common.{◌∙◌, sym}
use Rattle.toml.specs.View.{table_view}
use Rattle.srm_explain.proofs.Found.{found_at_top}
use Rattle.srm_explain.proofs.keys.finding_at.Goals as goal

pub returns-in_default : goal.returns-in_default
returns-in_default c =
    found_at_top c.args.rules.now c.args.part c.args.place (table_view c.args.top.now) c.finding_of.result
    (sym c.array_key.ensures ∙ c.in_default.is) c.finding_of.ensures
