use Rattle.std.proofs.Common.{◌≡◌, ◌++◌, drop, map, unwrap_or}
use Rattle.toml.specs.View.{view, items_view}
use Rattle.srm_scenario.specs.Rules.{all_whole}
use Rattle.srm_scenario.specs.Rules.{whole_number_of}
use Rattle.srm_scenario.proofs.numbers.numbers_of.Given as goal

abbrev pub invariant-loop-value : goal.invariant-loop-value
invariant-loop-value l = record {
  whole : all_whole 0 65535 (items_view (drop l.value-index l.values)) ≡ all_whole 0 65535 (items_view l.values);
  numbers : l.numbers ++ map (λ v. unwrap_or (whole_number_of (view v)) 0) (drop l.value-index l.values)
      ≡ map (λ v. unwrap_or (whole_number_of (view v)) 0) l.values;
}
