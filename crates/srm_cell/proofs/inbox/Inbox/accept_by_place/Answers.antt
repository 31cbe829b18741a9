use Rattle.std.proofs.Common.{◌++◌, ap, sym, subst, ◌∙◌}
use Rattle.srm_net.specs.Orders.{place, ordered}
use Rattle.srm_cell.specs.declared.flight.Flight.{Flight}
use Rattle.srm_cell.specs.Flights.{flight_cmp, BringsNone}
use Rattle.srm_cell.proofs.InboxLines.{Climbs, brings_others, others_rise, other_added, line_rises, lined_up}
use Rattle.srm_cell.proofs.inbox.Inbox.accept_by_place.Goals as goal

pub accept-requires : goal.accept-requires
accept-requires c = brings_others c.args.packet.now.id c.self.inside.strays c.self.inside.line
    (subst (BringsNone c.args.packet.now.id) (sym c.self.view_is) c.requires)

pub invariant_of-self-then-is_in : goal.invariant_of-self-then-is_in
invariant_of-self-then-is_in c = (
  c.self.invariant.0,
  subst Climbs (sym (rw c.if-is_in.true at c.in_ok-is_in.ensures.ok)) (line_rises (record {
    arrival = c.args.arrival;
    packet =
        c.args.packet.now;
  }) c.self.inside.line c.self.invariant.1),
)

pub returns-then-is_in-clause-ok : goal.returns-then-is_in-clause-ok
returns-then-is_in-clause-ok c =
    let f : Flight = record { arrival = c.args.arrival; packet = c.args.packet.now } in
    ap (λ l. ordered flight_cmp (c.self.inside.strays ++ l)) (rw c.if-is_in.true at c.in_ok-is_in.ensures.ok)
    ∙ lined_up f c.self.inside.strays c.self.inside.line c.self.invariant.1
    (subst (BringsNone f.packet.id) (sym c.self.view_is) c.requires)
    ∙ ap (place flight_cmp f) c.self.view_is

pub invariant_of-self-2 : goal.invariant_of-self-2
invariant_of-self-2 c = (
  others_rise c.accept.result (record { arrival = c.args.arrival; packet = c.args.packet.now }) c.self.inside.strays c.accept.new.self
      c.accept.ensures.ok c.accept.ensures.err c.self.invariant.0,
  subst Climbs (sym (rw c.if-is_in.false at c.in_ok-is_in.ensures.ok)) c.self.invariant.1,
)

pub returns-clause-ok : goal.returns-clause-ok
returns-clause-ok c =
    other_added c.accept.result (record { arrival = c.args.arrival; packet = c.args.packet.now }) c.self.inside.strays c.accept.new.self
    c.put_near_end.new.self c.args.self.now c.accept.ensures.ok
    (ap (λ l. ordered flight_cmp (c.self.inside.strays ++ l)) (rw c.if-is_in.false at c.in_ok-is_in.ensures.ok) ∙ c.self.view_is) c.requires
