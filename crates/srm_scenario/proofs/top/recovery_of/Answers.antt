use Rattle.std.proofs.Common.{◌∙◌, ap, arith, unwrap_or}
use Rattle.toml.specs.View.{table_view}
use Rattle.srm_scenario.proofs.TopFits.{recovery_fits}
use Rattle.srm_scenario.proofs.top.recovery_of.Goals as goal

pub overflow_cast-result : goal.overflow_cast-result
overflow_cast-result c =
    let fits = (recovery_fits (table_view c.args.table.now) c.requires).widen in
    omega (arith, fits, c.number.ensures)

pub overflow_cast-result-2 : goal.overflow_cast-result-2
overflow_cast-result-2 c =
    let fits = (recovery_fits (table_view c.args.table.now) c.requires).few_tries in
    let is = c.unwrap_or.ensures ∙ ap (λ o. unwrap_or o 1) c.optional_number.ensures in
    omega (arith, fits, is)

pub overflow_cast-result-3 : goal.overflow_cast-result-3
overflow_cast-result-3 c =
    let fits = (recovery_fits (table_view c.args.table.now) c.requires).two_steps in
    let is = c.unwrap_or-2.ensures ∙ ap (λ o. unwrap_or o 2) c.optional_number-2.ensures in
    omega (arith, fits, is)
