use Rattle.std.proofs.Common.{◌∙◌, sym, ap, subst}
use Rattle.std.specs.Global.{Vec}
use Rattle.srm_cell.specs.declared.sent.Sent.{Sent}
use Rattle.srm_cell.specs.Setting.{traffic_of}
use Rattle.srm_cell.specs.Hearing.{packets_in}
use Rattle.srm_interfaces.specs.Hearers.{GroupsMayHear}
use Rattle.srm_crew.specs.Pieces.{MayWork}
use Rattle.srm_crew.proofs.watching.WatchingWorkPieceWorked.work.Goals as goal

pub hear_groups-requires-clause-groups : goal.hear_groups-requires-clause-groups
hear_groups-requires-clause-groups g c =
    let k = c.args.self.now.session.scenario.now in
    let net = c.args.self.now.session.net.now in
    let may = subst (λ p. MayWork g.M.Participant.plain k net p)
    c.in-Hearers.is c.requires in
    subst (λ xs. GroupsMayHear g.M.Participant.plain (traffic_of k net) (packets_in xs) c.in-Hearers.groups.items)
    (sym (c.as_slice.ensures.value ∙ ap (λ (v : Vec Sent). v.items) c.deref.ensures)) may.1
