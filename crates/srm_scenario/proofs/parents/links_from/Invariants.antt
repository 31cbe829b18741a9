use Rattle.std.proofs.Common.{◌≡◌, ◌++◌, drop}
use Rattle.toml.specs.View.{table_view}
use Rattle.srm_scenario.specs.Described.{links_from}
use Rattle.srm_scenario.proofs.parents.links_from.Given as goal

abbrev pub invariant-loop-k : goal.invariant-loop-k
invariant-loop-k l = l.links.items ++ links_from (table_view l.table) l.k (drop l.k l.parents) ≡ links_from (table_view l.table) 0 l.parents
