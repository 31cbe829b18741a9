use Rattle.std.proofs.Common.{◌≡◌, drop, nat_le}
use Rattle.toml.specs.View.{items_view}
use Rattle.srm_scenario.specs.Rules.{count_made}
use Rattle.srm_scenario.proofs.table.make_at_most.Given as goal

abbrev pub invariant-loop-value : goal.invariant-loop-value
invariant-loop-value l = nat_le (count_made (items_view (drop l.value-index l.values))) l.left
    ≡ nat_le (count_made (items_view l.values)) l.most
