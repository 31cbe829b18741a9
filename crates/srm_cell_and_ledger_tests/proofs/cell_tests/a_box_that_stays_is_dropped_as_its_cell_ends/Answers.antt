use Rattle.std.proofs.Common.{subst}
use Rattle.srm_cell.specs.Flights.{BringsNone}
use Rattle.srm_cell_and_ledger_tests.proofs.cell_tests.a_box_that_stays_is_dropped_as_its_cell_ends.Goals as goal

pub accept-accepted-requires : goal.accept-accepted-requires
accept-accepted-requires g c = subst (BringsNone _) c.in_ok-cell.ensures tt
