use Rattle.std.proofs.Common.{◌∷◌, ◌++◌, ap, sym, ◌∙◌}
use Rattle.srm_net.specs.Orders.{ordered}
use Rattle.srm_cell.specs.Flights.{flight_cmp}
use Rattle.srm_cell.proofs.InboxLines.{line_popped, other_popped}
use Rattle.srm_cell.proofs.inbox.Inbox.pop_first.Goals as goal

pub returns-in_ok-flight : goal.returns-in_ok-flight
returns-in_ok-flight c =
    line_popped c.in_ok-flight.flight c.self.inside.line c.pop.new.self c.self.inside.strays c.args.self.now c.in_ok-flight.ensures
    (sym c.is_line_next.ensures ∙ c.if-is_line_next.true) c.self.invariant.0 c.self.invariant.1 c.self.view_is
    ∙ ap (λ f. f ∷ ordered flight_cmp (c.self.inside.strays ++ c.pop.new.self)) (sym c.into_flight.ensures)

pub returns-else-is_line_next : goal.returns-else-is_line_next
returns-else-is_line_next c =
    other_popped c.pop_first.result c.self.inside.strays c.pop_first.new.self c.self.inside.line c.args.self.now
    c.pop_first.ensures (sym c.is_line_next.ensures ∙ c.if-is_line_next.false) c.self.invariant.0 c.self.invariant.1 c.self.view_is
