use Rattle.std.proofs.Common.{sym, subst}
use Rattle.srm_net.specs.Network.{Network}
use Rattle.srm_scenario.specs.Plain.{PlainScenario}
use Rattle.srm_cell.specs.Setting.{traffic_of}
use Rattle.srm_cell.specs.Hearing.{packets_in}
use Rattle.srm_interfaces.specs.Hearers.{GroupsMayHear}
use Rattle.srm_crew.proofs.watch_team.WatchTeamWatchCrew.hear.Goals as goal

pub hear_in_team-requires-clause-groups : goal.hear_in_team-requires-clause-groups
hear_in_team-requires-clause-groups g c =
    let ps = packets_in c.args.sent.items in
    let gs = c.args.groups.items in
    subst (λ (k : PlainScenario). GroupsMayHear g.M.Participant.plain (traffic_of k c.args.self.now.work.session.net.now) ps gs)
    (sym c.requires.serves.0)
    (subst (λ (n : Network). GroupsMayHear g.M.Participant.plain (traffic_of c.args.session.scenario.now n) ps gs) (sym c.requires.serves.1)
    c.requires.groups)

pub hear_groups-requires-clause-groups : goal.hear_groups-requires-clause-groups
hear_groups-requires-clause-groups g c =
    subst (λ xs. GroupsMayHear g.M.Participant.plain (traffic_of c.args.session.scenario.now c.args.session.net.now) (packets_in
    xs) c.args.groups.items)
    (sym c.as_slice-then-saturating_mul-lt-ENOUGH.ensures.value) c.requires.groups
