use Rattle.std.proofs.Common.{◌++◌, ◌∷◌, [], sym, ◌∙◌, subst}
use Rattle.srm_cell.specs.declared.everywhere.Everywhere.{Everywhere}
use Rattle.srm_cell.specs.Tallies.{Tallies}
use Rattle.srm_cell.proofs.Tallying.{may_count, more_everywhere, more_stopped, room_kept, room_left}
use Rattle.srm_cell.proofs.tally.Tally.count.Goals as goal

pub count-requires-else-is_everywhere-clause-room : goal.count-requires-else-is_everywhere-clause-room
count-requires-else-is_everywhere-clause-room c =
    let r = c.requires.room in (r.0, r.2, may_count r.0 c.args.net.now r.1 c.args.self.now r.3 r.4)

pub returns-then-is_everywhere : goal.returns-then-is_everywhere
returns-then-is_everywhere c = λ s ps spread is.
    let r = c.requires.room in
    let net = c.args.net.now in
    let t = c.args.self.now in
    let p = c.args.packet.now in
    subst (λ (e : Everywhere). Tallies s net (ps ++ p ∷ []) (record { everywhere = e; stopped = t.stopped })) (sym c.count.ensures)
    (more_everywhere s net ps t p c.args.spread.now c.links-links.ensures.network spread
    (sym c.is_everywhere.ensures ∙ c.if-is_everywhere.true) c.requires.sender (room_left r.0 net r.1 t r.3 r.4) is)

pub returns-else-is_everywhere : goal.returns-else-is_everywhere
returns-else-is_everywhere c = λ s ps spread is.
    let r = c.requires.room in
    let net = c.args.net.now in
    let t = c.args.self.now in
    let p = c.args.packet.now in
    let counts = c.count-else-is_everywhere.ensures in
    more_stopped s net ps t p c.count-else-is_everywhere.new.totals (counts s spread)
    (room_kept r.0 net r.1 t p c.count-else-is_everywhere.new.totals r.3 r.4 (counts r.0 r.2)) is
