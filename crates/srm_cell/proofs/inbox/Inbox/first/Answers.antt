use Rattle.std.proofs.Common.{List, Some, slice_get, option_map, ap, sym, ◌∙◌}
use Rattle.srm_cell.specs.declared.flight.Flight.{Flight}
use Rattle.srm_cell.proofs.InboxLines.{first_other, first_line}
use Rattle.srm_cell.proofs.inbox.Inbox.first.Goals as goal

pub returns-then-not-is_line_next : goal.returns-then-not-is_line_next
returns-then-not-is_line_next c =
    c.first.ensures
    ∙ ap (option_map (λ (f : Flight). (f.arrival, f.packet.id)))
    (first_other c.self.inside.line c.self.inside.strays (sym c.is_line_next.ensures ∙ c.if-not-is_line_next.true)
    c.self.invariant.0 c.self.invariant.1)
    ∙ ap (λ (l : List Flight). option_map (λ (f : Flight). (f.arrival, f.packet.id)) (slice_get l 0)) c.self.view_is

pub returns : goal.returns
returns c =
    ap Some c.place.ensures
    ∙ ap (option_map (λ (f : Flight). (f.arrival, f.packet.id)))
    (first_line c.self.inside.line c.self.inside.strays c.in_ok-flight.flight.now
    (sym c.is_line_next.ensures ∙ c.if-not-is_line_next.false) c.self.invariant.0 c.self.invariant.1 c.in_ok-flight.ensures.lookup)
    ∙ ap (λ (l : List Flight). option_map (λ (f : Flight). (f.arrival, f.packet.id)) (slice_get l 0)) c.self.view_is
