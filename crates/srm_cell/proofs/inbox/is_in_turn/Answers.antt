use Rattle.std.proofs.Common.{is_lt, length, refl, ap, ◌∙◌}
use Rattle.srm_cell.specs.Flights.{place_cmp}
use Rattle.srm_cell.proofs.InboxLines.{last_follows}
use Rattle.srm_cell.proofs.inbox.is_in_turn.Goals as goal

pub returns-in-Some : goal.returns-in-Some
returns-in-Some c =
    c.is_before.ensures
    ∙ ap (λ k. is_lt (place_cmp k c.args.flight)) c.place.ensures
    ∙ last_follows c.args.flight c.args.line.now (length c.args.line.now) c.in-Some.last.now refl (c.in-Some.ensures.some.0 refl)
    c.in-Some.ensures.lookup
