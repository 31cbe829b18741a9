use Rattle.std.proofs.Common.{◌*◌}
use Rattle.srm_interfaces.specs.Crews.{HasGrown}
use Rattle.srm_crew.specs.Shared.{counted_from}
use Rattle.srm_crew.proofs.add.add_totals.Given as goal

abbrev pub invariant-loop-link : goal.invariant-loop-link
invariant-loop-link l = HasGrown (counted_from 0 (5 * l.link) l.totals) l.initial.seat l.seat
