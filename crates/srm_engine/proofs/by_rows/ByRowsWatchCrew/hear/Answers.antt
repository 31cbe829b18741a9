use Rattle.std.proofs.Common.{sym, subst}
use Rattle.srm_cell.specs.Setting.{traffic_of}
use Rattle.srm_cell.specs.Hearing.{packets_in}
use Rattle.srm_interfaces.specs.Hearers.{GroupsMayHear}
use Rattle.srm_engine.proofs.by_rows.ByRowsWatchCrew.hear.Goals as goal

pub hear_groups-requires-clause-groups : goal.hear_groups-requires-clause-groups
hear_groups-requires-clause-groups g c =
    subst (λ xs. GroupsMayHear g.M.Participant.plain (traffic_of c.args.session.scenario.now c.args.session.net.now) (packets_in xs)
    c.args.groups.items) (sym c.as_slice.ensures.value) c.requires.groups
