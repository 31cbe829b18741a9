use Rattle.std.proofs.Common.{◌≡◌, ◌∷◌, [], List, MatchOption, subst, heap_items}
use Rattle.std.specs.BinaryHeap.{IsHeap}
use Rattle.std.specs.List.{IsDistinct}
use Rattle.std.specs.Ordering.{eq_by_cmp}
use Rattle.srm_net.specs.Orders.{ordered}
use Rattle.srm_cell.specs.declared.flight.Flight.{Flight}
use Rattle.srm_cell.specs.Flights.{flight_cmp, later_cmp, flight_total}
use Rattle.srm_cell.proofs.HeapLemmas.{popped}
use Rattle.srm_cell.proofs.strays.Strays.pop.Goals as goal

left : (c : goal.After-pop) → MatchOption c.pop.result
    ((ordered flight_cmp (heap_items c.self.inside.waiting) ≡ []) × (ordered flight_cmp (heap_items c.pop.new.self) ≡ []))
    (λ f. ordered flight_cmp (heap_items c.self.inside.waiting) ≡ f ∷ ordered flight_cmp (heap_items c.pop.new.self))
    × IsHeap later_cmp (heap_items c.pop.new.self) × IsDistinct (eq_by_cmp flight_cmp) (heap_items c.pop.new.self)
left c =
    let e = c.pop.ensures in
    popped flight_cmp flight_total c.pop.result c.self.inside.waiting c.pop.new.self e.permutation e.below_top e.heap_order e.unchanged
    e.none c.self.invariant.0 c.self.invariant.1

pub invariant_of-self : goal.invariant_of-self
invariant_of-self c = ((left c).1, (left c).2)

pub returns : goal.returns
returns c =
    let rest = ordered flight_cmp (heap_items c.pop.new.self) in
    subst (λ (l : List Flight). MatchOption c.pop.result ((l ≡ []) × (rest ≡ [])) (λ f. l ≡ f ∷ rest)) c.self.view_is (left c).0
