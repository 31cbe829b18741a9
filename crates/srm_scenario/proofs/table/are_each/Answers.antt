use Rattle.std.proofs.Common.{◌≡◌, ◌∙◌, true, false, ap, sym, length, arith}
use Rattle.std.proofs.lemmas.Bool.Decides.{nat_tests}
use Rattle.std.specs.Prelude.{◌&&◌, ◌==◌}
use Rattle.std.specs.List.{list_all}
use Rattle.toml.specs.View.{view}
use Rattle.srm_scenario.specs.Rules.{is_whole}
use Rattle.srm_scenario.proofs.Tables.{are_exactly}
use Rattle.srm_scenario.proofs.table.are_each.Goals as goal

pub returns-then-values-count : goal.returns-then-values-count
returns-then-values-count c =
    let vs = c.in-Some.values.now in
    let is : (length vs == c.args.count) ≡ true = grind (arith, nat_tests) in
    c.are_whole.ensures ∙ sym (ap (λ b. b && list_all (λ v. is_whole c.args.low c.args.high (view v)) vs) is)
    ∙ are_exactly c.args.count c.args.low c.args.high (view c.args.value.now) vs c.in-Some.ensures

pub returns-else-values-count : goal.returns-else-values-count
returns-else-values-count c =
    let vs = c.in-Some.values.now in
    let is : (length vs == c.args.count) ≡ false = grind (arith, nat_tests) in
    is ∙ sym (ap (λ b. b && list_all (λ v. is_whole c.args.low c.args.high (view v)) vs) is)
    ∙ are_exactly c.args.count c.args.low c.args.high (view c.args.value.now) vs c.in-Some.ensures
