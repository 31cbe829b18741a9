use Rattle.std.proofs.Common.{◌<◌, sym, subst}
use Rattle.srm_net.proofs.OccupiedLemmas.{ends_there, end_fits, place_fits, b_lower, a_lower}
use Rattle.srm_net.proofs.occupied.Occupied.sides.Goals as goal

pub position-a-requires : goal.position-a-requires
position-a-requires c =
    let (w, l, i, g) = c.requires in
    subst (λ n. c.args.link.a < n) (sym i.rooted.long) (ends_there w c.args.rooted.now.positions.items c.args.self.now i l c.args.link g).0

pub position-b-requires : goal.position-b-requires
position-b-requires c =
    let (w, l, i, g) = c.requires in
    subst (λ n. c.args.link.b < n) (sym i.rooted.long) (ends_there w c.args.rooted.now.positions.items c.args.self.now i l c.args.link g).1

pub any_outside-requires-clause-end : goal.any_outside-requires-clause-end
any_outside-requires-clause-end c =
    let (w, l, i, g) = c.requires in
    let ps = c.args.rooted.now.positions.items in
    (end_fits w ps c.args.self.now i c.args.link.b (ends_there w ps c.args.self.now i l c.args.link g).1 c.position-b.result
    c.position-b.ensures).1

pub any_within-requires-clause-to : goal.any_within-requires-clause-to
any_within-requires-clause-to c =
    let (w, l, i, g) = c.requires in
    let ps = c.args.rooted.now.positions.items in
    (end_fits w ps c.args.self.now i c.args.link.b (ends_there w ps c.args.self.now i l c.args.link g).1 c.position-b.result
    c.position-b.ensures).0

pub any_within-requires-else-a-b-clause-to : goal.any_within-requires-else-a-b-clause-to
any_within-requires-else-a-b-clause-to c =
    let (w, l, i, g) = c.requires in
    let ps = c.args.rooted.now.positions.items in
    (end_fits w ps c.args.self.now i c.args.link.a (ends_there w ps c.args.self.now i l c.args.link g).0 c.position-a.result
    c.position-a.ensures).0

pub any_outside-requires-else-a-b-clause-end : goal.any_outside-requires-else-a-b-clause-end
any_outside-requires-else-a-b-clause-end c =
    let (w, l, i, g) = c.requires in
    let ps = c.args.rooted.now.positions.items in
    (end_fits w ps c.args.self.now i c.args.link.a (ends_there w ps c.args.self.now i l c.args.link g).0 c.position-a.result
    c.position-a.ensures).1

pub any_outside-requires-clause-place : goal.any_outside-requires-clause-place
any_outside-requires-clause-place c =
    let (w, l, i, g) = c.requires in
    let ps = c.args.rooted.now.positions.items in
    (place_fits w ps c.args.self.now i c.args.link.b (ends_there w ps c.args.self.now i l c.args.link g).1 c.position-b.result
    c.position-b.ensures).0

pub any_within-requires-clause-from : goal.any_within-requires-clause-from
any_within-requires-clause-from c =
    let (w, l, i, g) = c.requires in
    let ps = c.args.rooted.now.positions.items in
    (place_fits w ps c.args.self.now i c.args.link.b (ends_there w ps c.args.self.now i l c.args.link g).1 c.position-b.result
    c.position-b.ensures).1

pub any_within-requires-else-a-b-clause-from : goal.any_within-requires-else-a-b-clause-from
any_within-requires-else-a-b-clause-from c =
    let (w, l, i, g) = c.requires in
    let ps = c.args.rooted.now.positions.items in
    (place_fits w ps c.args.self.now i c.args.link.a (ends_there w ps c.args.self.now i l c.args.link g).0 c.position-a.result
    c.position-a.ensures).1

pub any_outside-requires-else-a-b-clause-place : goal.any_outside-requires-else-a-b-clause-place
any_outside-requires-else-a-b-clause-place c =
    let (w, l, i, g) = c.requires in
    let ps = c.args.rooted.now.positions.items in
    (place_fits w ps c.args.self.now i c.args.link.a (ends_there w ps c.args.self.now i l c.args.link g).0 c.position-a.result
    c.position-a.ensures).0

pub returns-then-a-b : goal.returns-then-a-b
returns-then-a-b c w l i g =
    b_lower w c.args.rooted.now.positions.items c.args.self.now i l c.args.link g c.position-a.result c.position-b.result
    c.position-a.ensures c.position-b.ensures c.if-a-b.true c.any_outside.result c.any_within.result
    (c.any_outside.ensures _ i.told) (c.any_within.ensures _ i.told)

pub returns-else-a-b : goal.returns-else-a-b
returns-else-a-b c w l i g =
    a_lower w c.args.rooted.now.positions.items c.args.self.now i l c.args.link g c.position-a.result c.position-b.result
    c.position-a.ensures c.position-b.ensures c.if-a-b.false c.any_within-else-a-b.result c.any_outside-else-a-b.result
    (c.any_within-else-a-b.ensures _ i.told) (c.any_outside-else-a-b.ensures _ i.told)
