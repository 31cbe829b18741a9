use Rattle.std.proofs.Common.{subst, arith}
use Rattle.std.proofs.lemmas.Slice.Zip.{AllZip-long}
use Rattle.srm_crew.specs.Pieces.{IsJobsOf}
use Rattle.srm_interfaces.specs.Watches.{AdvanceWatched, KeepClosed}
use Rattle.srm_crew.proofs.Hearers.{jobs_may, jobs_advanced, jobs_gave}
use Rattle.srm_crew.proofs.WatchedPieces.{pieces_watched, watch_pieces}
use Rattle.srm_crew.proofs.watch_team.advance_in_team.Goals as goal

pub work_in_team-requires-clause-few : goal.work_in_team-requires-clause-few
work_in_team-requires-clause-few g c =
    let given = AllZip-long (λ js p. IsJobsOf js p) c.in-Ok.pieces.items c.in-Ok-to_advance.given.items c.in-Ok-to_advance.ensures in
    let few = c.in-Ok.ensures.few in
    let some = c.if-room-eq0.false in
    let room = c.room-room.ensures in
    omega (arith, given, few, some, room)

pub work_in_team-requires-clause-ready : goal.work_in_team-requires-clause-ready
work_in_team-requires-clause-ready g c =
    jobs_may g.M.Participant.plain (KeepClosed (g.W.Watch.keeps c.args.work.watch) (g.W.Watch.closes c.args.work.watch))
    c.args.work.session.scenario.now c.args.work.session.net.now c.in-Ok.pieces.items
    c.in-Ok-to_advance.given.items
    c.in-Ok-to_advance.ensures
    (watch_pieces g.M.Participant.plain c.args.work.session.scenario.now c.args.work.session.net.now c.in-Ok.pieces.items c.args.jobs.items
    c.in-Ok.ensures.all c.requires)

pub advanced_of-requires : goal.advanced_of-requires
advanced_of-requires g c =
    jobs_advanced g.M.Participant.plain (KeepClosed (g.W.Watch.keeps c.args.work.watch) (g.W.Watch.closes c.args.work.watch))
    c.args.work.session.scenario.now c.args.work.session.net.now c.in-Ok.pieces.items
    c.in-Ok-to_advance.given.items
    c.in-Ok-work_in_team.all.items c.in-Ok-to_advance.ensures c.in-Ok-work_in_team.ensures.given

pub returns-clause-advanced : goal.returns-clause-advanced
returns-clause-advanced g c =
    let k = c.args.work.session.scenario.now in
    let net = c.args.work.session.net.now in
    let takes = KeepClosed (g.W.Watch.keeps c.args.work.watch) (g.W.Watch.closes c.args.work.watch) in
    subst (λ l. AdvanceWatched g.M.Participant.plain takes k net l c.put_together.result) c.in-Ok.ensures.all
    (pieces_watched g.M.Participant.plain k net takes c.in-Ok.pieces.items c.in-Ok-advanced_of.results.items c.put_together.result
    (jobs_gave g.M.Participant.plain takes k net c.in-Ok.pieces.items c.in-Ok-to_advance.given.items c.in-Ok-work_in_team.all.items
    c.in-Ok-advanced_of.results.items c.in-Ok-to_advance.ensures c.in-Ok-work_in_team.ensures.given c.in-Ok-advanced_of.ensures)
    c.put_together.ensures)
