use Rattle.std.proofs.Common.{sym, subst}
use Rattle.std.specs.List.{IsDistinct}
use Rattle.std.specs.Ordering.{eq_by_cmp}
use Rattle.srm_cell.specs.Flights.{flight_cmp}
use Rattle.srm_cell.proofs.strays.Strays.new.Goals as goal

pub invariant_of-result : goal.invariant_of-result
unfolding IsDistinct
invariant_of-result c = (c.new.ensures.heap_order, subst (IsDistinct (eq_by_cmp flight_cmp)) (sym c.new.ensures.items) tt)
