use Rattle.std.proofs.Common.{◌++◌, insert, ap, sym, subst, ◌∙◌}
use Rattle.srm_net.specs.Orders.{place}
use Rattle.srm_cell.specs.declared.flight.Flight.{Flight}
use Rattle.srm_cell.specs.Flights.{flight_cmp}
use Rattle.srm_cell.specs.Lines.{in_box}
use Rattle.srm_cell.proofs.InboxLines.{Climbs, last_rise, put_in_last}
use Rattle.srm_cell.proofs.line.Line.put_near_end.Goals as goal

pub place_in-place-requires : goal.place_in-place-requires
place_in-place-requires c =
    last_rise (in_box c.self.inside.blocks) c.self.inside.last.items (subst Climbs (sym c.self.view_is) c.requires)

pub returns-clause-ok : goal.returns-clause-ok
returns-clause-ok c =
    let f : Flight = record { arrival = c.args.arrival; packet = c.args.packet.now } in
    let blocks = in_box c.self.inside.blocks in
    let last = c.self.inside.last.items in
    ap (λ l. blocks ++ l) (c.in_ok-insert.ensures.items ∙ ap (λ x. insert last c.place_in-place.result x)
    c.in_ok-flight.ensures.ok)
    ∙ put_in_last f blocks last c.place_in-place.result (subst Climbs (sym c.self.view_is) c.requires) c.place_in-place.ensures
    (c.is_behind_some.ensures c.if-not-is_behind_some.false)
    ∙ ap (place flight_cmp f) c.self.view_is
