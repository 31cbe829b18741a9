use Rattle.std.proofs.Common.{◌≡◌, ◌∙◌, true, false, ap, sym, nat_le, length, arith}
use Rattle.std.proofs.lemmas.Bool.Decides.{nat_tests}
use Rattle.std.specs.Prelude.{◌&&◌}
use Rattle.std.specs.List.{list_all}
use Rattle.toml.specs.View.{view}
use Rattle.srm_scenario.specs.Rules.{is_whole}
use Rattle.srm_scenario.proofs.Tables.{are_small}
use Rattle.srm_scenario.proofs.table.are_numbers.Goals as goal

pub returns-then-values-most : goal.returns-then-values-most
returns-then-values-most c =
    let vs = c.in-Some.values.now in
    let le : nat_le (length vs) c.args.most ≡ true = grind (arith, nat_tests) in
    c.are_whole.ensures ∙ sym (ap (λ b. b && list_all (λ v. is_whole 0 c.args.high (view v)) vs) le)
    ∙ are_small c.args.most c.args.high (view c.args.value.now) vs c.in-Some.ensures

pub returns-else-values-most : goal.returns-else-values-most
returns-else-values-most c =
    let vs = c.in-Some.values.now in
    let le : nat_le (length vs) c.args.most ≡ false = grind (arith, nat_tests) in
    le ∙ sym (ap (λ b. b && list_all (λ v. is_whole 0 c.args.high (view v)) vs) le)
    ∙ are_small c.args.most c.args.high (view c.args.value.now) vs c.in-Some.ensures
