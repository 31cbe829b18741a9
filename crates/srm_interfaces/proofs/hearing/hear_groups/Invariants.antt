use Rattle.std.specs.Global.{Vec}
use Rattle.std.specs.Vec.Iter.{into_iter_items}
use Rattle.srm_cell.specs.declared.cell.Cell.{Cell}
use Rattle.srm_cell.specs.Setting.{traffic_of}
use Rattle.srm_cell.specs.Hearing.{packets_in, EachHearsAll}
use Rattle.srm_interfaces.specs.Hearers.{GroupsMayHear}
use Rattle.srm_interfaces.proofs.Zips.{ZipSoFar}
use Rattle.srm_interfaces.proofs.hearing.hear_groups.Given as goal

-- the groups so far have heard, and the others may hear
abbrev pub invariant-loop-group : goal.invariant-loop-group
invariant-loop-group g l =
    (goal.iterator-loop-group g).can_next l.group-iterator
    × (goal.iterator-loop-group g).is_finite l.group-iterator
    × GroupsMayHear g.M.Participant.plain (traffic_of l.session.scenario.now l.session.net.now) (packets_in l.sent)
    (into_iter_items l.group-iterator)
    × ZipSoFar (λ (a b : Vec (Cell _)).
    EachHearsAll g.M.Participant.plain (traffic_of l.session.scenario.now l.session.net.now) (packets_in l.sent) a.items b.items)
    l.fn.groups.items (into_iter_items l.group-iterator) l.heard.items
