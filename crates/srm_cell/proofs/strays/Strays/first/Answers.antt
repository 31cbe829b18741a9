use Rattle.std.proofs.Common.{◌<◌, List, Some, slice_get, option_map, ap, sym, subst, refl, ◌∙◌, heap_items}
use Rattle.srm_cell.specs.declared.flight.Flight.{Flight}
use Rattle.srm_cell.specs.Flights.{flight_cmp, flight_total}
use Rattle.srm_cell.proofs.HeapLemmas.{top_first}
use Rattle.srm_cell.proofs.strays.Strays.first.Goals as goal

pub returns : goal.returns
returns c =
    ap Some c.place.ensures
    ∙ ap (option_map (λ (f : Flight). (f.arrival, f.packet.id)))
    (sym (top_first flight_cmp flight_total c.in_ok-stray.stray.now (heap_items c.self.inside.waiting)
    (subst (λ n. 0 < n) c.self.inside.waiting.data.ok.0 (c.in_ok-stray.ensures.variant.0 refl))
    c.in_ok-stray.ensures.lookup (c.in_ok-stray.ensures.greatest c.self.invariant.0)))
    ∙ ap (λ (l : List Flight). option_map (λ (f : Flight). (f.arrival, f.packet.id)) (slice_get l 0)) c.self.view_is
