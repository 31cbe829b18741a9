use Rattle.std.proofs.Common.{◌≡◌, ◌∷◌, ◌++◌, [], ap, sym, subst, ◌∙◌}
use Rattle.srm_net.specs.Orders.{place, ordered}
use Rattle.srm_cell.specs.declared.flight.Flight.{Flight}
use Rattle.srm_cell.specs.Flights.{flight_cmp, BringsNone}
use Rattle.srm_cell.proofs.InboxLines.{Climbs, put_behind, line_rises, lined_up}
use Rattle.srm_cell.proofs.inbox.Inbox.accept.Goals as goal
use Rattle.srm_cell.proofs.inbox.Inbox.accept.Goals.{In_ok-push}

-- the line, the flight in its place
with_it : (c : In_ok-push) → c.push.new.self
    ≡ place flight_cmp (record { arrival = c.args.arrival; packet = c.args.packet.now }) c.self.inside.line
with_it c =
    c.in_ok-push.ensures.ok
    ∙ ap (λ f. c.self.inside.line ++ f ∷ []) c.in_ok-flight.ensures.ok
    ∙ put_behind (record { arrival = c.args.arrival; packet = c.args.packet.now }) c.self.inside.line c.self.invariant.1
    (sym c.is_in_turn.ensures ∙ c.if-is_in_turn.true)

pub invariant_of-self-then-is_short : goal.invariant_of-self-then-is_short
invariant_of-self-then-is_short c = (
  c.self.invariant.0,
  subst Climbs (sym (with_it c)) (line_rises (record { arrival = c.args.arrival; packet = c.args.packet.now }) c.self.inside.line
      c.self.invariant.1),
)

pub returns-then-is_short-clause-ok : goal.returns-then-is_short-clause-ok
returns-then-is_short-clause-ok c =
    let f : Flight = record { arrival = c.args.arrival; packet = c.args.packet.now } in
    ap (λ l. ordered flight_cmp (c.self.inside.strays ++ l)) (with_it c)
    ∙ lined_up f c.self.inside.strays c.self.inside.line c.self.invariant.1
    (subst (BringsNone f.packet.id) (sym c.self.view_is) c.requires)
    ∙ ap (place flight_cmp f) c.self.view_is
