use Rattle.std.proofs.Common.{ap}
use Rattle.toml.specs.Data.{get_member}
use Rattle.toml.specs.View.{view, table_view}
use Rattle.srm_scenario.specs.Keys.{name_of}
use Rattle.srm_scenario.specs.Described.{array_of}
use Rattle.srm_scenario.proofs.Tables.{looked_up, array_found, no_array_found}
use Rattle.srm_scenario.proofs.table.array.Goals as goal

pub returns-in-Some-values_of : goal.returns-in-Some-values_of
returns-in-Some-values_of c =
    let found = looked_up c.get.result c.name.result.now (name_of c.args.key) c.args.table.now.entries c.name.ensures c.get.ensures.value in
    array_found (get_member (name_of c.args.key) (table_view c.args.table.now)) (view c.in-Some.value.now)
    c.in-Some-values_of.values.now (rw c.in-Some.is at found) c.in-Some-values_of.ensures

pub returns-in-None-values_of : goal.returns-in-None-values_of
returns-in-None-values_of c =
    let found = looked_up c.get.result c.name.result.now (name_of c.args.key) c.args.table.now.entries c.name.ensures c.get.ensures.value in
    no_array_found (get_member (name_of c.args.key) (table_view c.args.table.now)) (view c.in-Some.value.now)
    (rw c.in-Some.is at found) c.in-None-values_of.ensures

pub returns-in-None : goal.returns-in-None
returns-in-None c =
    let found = looked_up c.get.result c.name.result.now (name_of c.args.key) c.args.table.now.entries c.name.ensures c.get.ensures.value in
    ap array_of (rw c.in-None.is at found)
