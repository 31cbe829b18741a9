use Rattle.std.proofs.Common.{take}
use Rattle.srm_interfaces.specs.Crews.{HasGrown}
use Rattle.srm_crew.specs.Shared.{sum_of}
use Rattle.srm_crew.proofs.add.add_each.Given as goal

abbrev pub invariant-loop-done : goal.invariant-loop-done
invariant-loop-done g l = HasGrown (λ k. sum_of g.D.Counted.numbers k (take l.done-index l.all)) l.fn.seat l.seat
