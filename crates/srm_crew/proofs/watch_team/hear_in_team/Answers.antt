use Rattle.std.proofs.Common.{◌≡◌, ◌≤◌, ◌+◌, ◌-◌, ◌*◌, ◌/◌, All, length, sym, subst, arith}
use Rattle.std.proofs.lemmas.Slice.Zip.{AllZip-long}
use Rattle.std.specs.Global.{Vec}
use Rattle.srm_cell.specs.declared.cell.Cell.{Cell}
use Rattle.srm_cell.specs.Setting.{traffic_of}
use Rattle.srm_cell.specs.Hearing.{packets_in, AllMayHear}
use Rattle.srm_interfaces.specs.Hearers.{GroupsHear, GroupsMayHear}
use Rattle.srm_interfaces.specs.Watches.{KeepClosed}
use Rattle.srm_crew.specs.Pieces.{AreHearersOf, HeardTogether}
use Rattle.srm_crew.proofs.Hearers.{hearers_may, hearers_heard, hearers_gave, if_ok_then}
use Rattle.srm_interfaces.proofs.InPieces.{all_each}
use Rattle.srm_crew.proofs.JobPieces.{few_enough}
use Rattle.srm_crew.proofs.watch_team.hear_in_team.Goals as goal

pub hear_groups-requires-clause-groups : goal.hear_groups-requires-clause-groups
hear_groups-requires-clause-groups g c =
    subst (λ xs. GroupsMayHear g.M.Participant.plain (traffic_of c.args.work.session.scenario.now c.args.work.session.net.now)
    (packets_in xs)
    c.args.groups.items) (sym c.as_slice.ensures.value) c.requires.groups

pub work_in_team-requires-clause-few : goal.work_in_team-requires-clause-few
work_in_team-requires-clause-few g c =
    let given = AllZip-long (λ gs p. AreHearersOf c.args.sent.items gs p) c.in_ok-pieces.pieces.items c.in_ok-given.given.items
    c.in_ok-given.ensures in
    let some = c.if-room-eq0.false in
    let room = c.room-room.ensures in
    let many : c.len.result ≡ length c.args.groups.items = let e = c.len.ensures in let ok = c.args.groups.ok in omega (arith, e, ok) in
    few_enough (length c.args.groups.items) c.args.team.now.room (length c.in_ok-given.given.items) (omega (arith, some, room))
    (subst (λ k. (k - 1) * (length c.args.groups.items / c.args.team.now.room + 1) ≤ length c.args.groups.items - 1) (sym given)
    (rw (many, c.room-room.ensures) at c.in_ok-pieces.ensures.few))

pub work_in_team-requires-clause-ready : goal.work_in_team-requires-clause-ready
work_in_team-requires-clause-ready g c =
    let k = c.args.work.session.scenario.now in
    let net = c.args.work.session.net.now in
    let may = λ (v : Vec (Cell _)). AllMayHear g.M.Participant.plain (traffic_of k net) (packets_in c.args.sent.items) v.items in
    hearers_may g.M.Participant.plain (KeepClosed (g.W.Watch.keeps c.args.work.watch) (g.W.Watch.closes c.args.work.watch))
    k net c.args.sent.items c.in_ok-pieces.pieces.items
    c.in_ok-given.given.items
    c.in_ok-given.ensures c.requires.sent
    (all_each may c.in_ok-pieces.pieces.items (subst (All may) (sym c.in_ok-pieces.ensures.all) c.requires.groups))

pub heard_of-requires : goal.heard_of-requires
heard_of-requires g c =
    hearers_heard g.M.Participant.plain (KeepClosed (g.W.Watch.keeps c.args.work.watch) (g.W.Watch.closes c.args.work.watch))
    c.args.work.session.scenario.now c.args.work.session.net.now c.args.sent.items
    c.in_ok-pieces.pieces.items
    c.in_ok-given.given.items c.in_ok-all.all.items c.in_ok-given.ensures c.in_ok-all.ensures.given

pub returns-clause-heard : goal.returns-clause-heard
returns-clause-heard g c =
    let k = c.args.work.session.scenario.now in
    let net = c.args.work.session.net.now in
    let ps = packets_in c.args.sent.items in
    if_ok_then (λ (v : Vec (Vec (Cell _))). HeardTogether c.in_ok-all.all.items v.items)
    (λ (v : Vec (Vec (Cell _))). GroupsHear g.M.Participant.plain (traffic_of k net) ps c.args.groups.items v.items)
    (λ v h. subst (λ l. GroupsHear g.M.Participant.plain (traffic_of k net) ps l v.items) c.in_ok-pieces.ensures.all
    (hearers_gave g.M.Participant.plain (KeepClosed (g.W.Watch.keeps c.args.work.watch) (g.W.Watch.closes c.args.work.watch))
    k net c.args.sent.items c.in_ok-pieces.pieces.items
    c.in_ok-given.given.items c.in_ok-all.all.items
    v.items c.in_ok-given.ensures c.in_ok-all.ensures.given h))
    c.heard_of.result c.heard_of.ensures
