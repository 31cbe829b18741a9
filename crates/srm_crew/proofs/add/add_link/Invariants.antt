use Rattle.std.proofs.Common.{◌*◌}
use Rattle.srm_interfaces.specs.Crews.{HasGrown}
use Rattle.srm_crew.specs.Shared.{counted_from}
use Rattle.srm_crew.proofs.add.add_link.Given as goal

abbrev pub invariant-loop-index : goal.invariant-loop-index
invariant-loop-index l = HasGrown (counted_from (5 * l.link) l.index l.totals) l.initial.seat l.seat
