use Rattle.std.proofs.Common.{sym}
use Rattle.srm_scenario.specs.Keys.{name_of}
use Rattle.srm_scenario.proofs.Tables.{looked_up}
use Rattle.srm_explain.proofs.keys.missing_at.Goals as goal

pub lacking-requires-clause-lacks : goal.lacking-requires-clause-lacks
lacking-requires-clause-lacks c =
    let found = looked_up c.get.result c.name.result.now (name_of c.args.rule.key) c.args.table.now.entries c.name.ensures
    c.get.ensures.value in
    sym (rw c.in-None.is at found)
