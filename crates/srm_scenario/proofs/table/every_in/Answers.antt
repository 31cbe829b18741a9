use Rattle.std.proofs.Common.{◌∙◌, ap, unwrap_or}
use Rattle.srm_scenario.proofs.table.every_in.Goals as goal

pub returns : goal.returns
returns c = c.unwrap_or.ensures ∙ ap (λ o. unwrap_or o 1) c.optional_number.ensures
