use Rattle.std.proofs.Common.{sym}
use Rattle.srm_interfaces.specs.Watches.{AdvanceWatched, KeepClosed}
use Rattle.srm_crew.proofs.WatchedPieces.{maps_settled, settled_long, watched_as}
use Rattle.srm_crew.proofs.watch_team.WatchTeamWatchCrew.map.Goals.{then-are_few_due, else-are_few_due}
use Rattle.srm_crew.proofs.watch_team.WatchTeamWatchCrew.map.Goals as goal

pub settle-requires-clause-long : goal.settle-requires-clause-long
settle-requires-clause-long g c =
    let takes = KeepClosed (g.W.Watch.keeps c.args.watch) (g.W.Watch.closes c.args.watch) in
    let told : AdvanceWatched g.M.Participant.plain takes c.args.session.scenario.now c.args.session.net.now c.args.jobs.items
    c.if-are_few_due.advanced =
    watched_as g.M.Participant.plain takes c.args.self.now.work.session.scenario.now c.args.session.scenario.now
    c.args.self.now.work.session.net.now c.args.session.net.now c.args.jobs.items c.if-are_few_due.advanced
    c.requires.serves.0 c.requires.serves.1
    (elim c.if-are_few_due.branch [
      | then-are_few_due w ↦ rw w.advanced-is w.advance_watched-advanced.ensures
      | else-are_few_due w ↦ rw w.advanced-is w.advance_in_team-advanced.ensures.advanced
    ]) in
    settled_long g.M.Participant.plain c.args.session.scenario.now c.args.session.net.now takes c.args.jobs.items
    c.args.ledger.now.links c.if-are_few_due.advanced (sym c.requires.may.may.links) told

pub returns-clause-done : goal.returns-clause-done
returns-clause-done g c =
    let takes = KeepClosed (g.W.Watch.keeps c.args.watch) (g.W.Watch.closes c.args.watch) in
    let told : AdvanceWatched g.M.Participant.plain takes c.args.session.scenario.now c.args.session.net.now c.args.jobs.items
    c.if-are_few_due.advanced =
    watched_as g.M.Participant.plain takes c.args.self.now.work.session.scenario.now c.args.session.scenario.now
    c.args.self.now.work.session.net.now c.args.session.net.now c.args.jobs.items c.if-are_few_due.advanced
    c.requires.serves.0 c.requires.serves.1
    (elim c.if-are_few_due.branch [
      | then-are_few_due w ↦ rw w.advanced-is w.advance_watched-advanced.ensures
      | else-are_few_due w ↦ rw w.advanced-is w.advance_in_team-advanced.ensures.advanced
    ]) in
    maps_settled g.M.Participant.plain c.args.session.scenario.now c.args.session.net.now takes c.args.seat c.args.jobs.items
    c.if-are_few_due.advanced c.settle.result told c.settle.ensures
