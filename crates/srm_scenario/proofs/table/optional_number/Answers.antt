use Rattle.std.proofs.Common.{◌∙◌, ap}
use Rattle.std.specs.Option.{option_and_then}
use Rattle.srm_scenario.specs.Keys.{name_of}
use Rattle.srm_scenario.specs.Described.{whole_number_of}
use Rattle.srm_scenario.proofs.Tables.{looked_up}
use Rattle.srm_scenario.proofs.table.optional_number.Goals as goal

pub returns-in-Some : goal.returns-in-Some
returns-in-Some c =
    let found = looked_up c.get.result c.name.result.now (name_of c.args.key) c.args.table.now.entries c.name.ensures c.get.ensures.value in
    c.whole_number_of.ensures ∙ ap (option_and_then whole_number_of) (rw c.in-Some.is at found)

pub returns-in-None : goal.returns-in-None
returns-in-None c =
    let found = looked_up c.get.result c.name.result.now (name_of c.args.key) c.args.table.now.entries c.name.ensures c.get.ensures.value in
    ap (option_and_then whole_number_of) (rw c.in-None.is at found)
