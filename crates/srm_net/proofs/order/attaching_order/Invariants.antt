use Rattle.std.proofs.Common.{reverse}
use Rattle.srm_net.specs.Waiting.{IsGrowing, steps_left}
use Rattle.srm_net.proofs.order.attaching_order.Given as goal

abbrev pub invariant-loop-step : goal.invariant-loop-step
invariant-loop-step l = IsGrowing l.nodes l.links l.growing.known.items (reverse l.growing.steps.items) l.growing.pending.items

abbrev pub decreases-loop-step : goal.decreases-loop-step
decreases-loop-step l = steps_left l.nodes l.links l.growing.steps.items l.growing.pending.items
