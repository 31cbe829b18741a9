use Rattle.srm_net.proofs.HopLemmas.{hops_turn, hops_meet_the_triangle, hops_fit}
use Rattle.srm_net.proofs.laws.hops_are_a_metric.Goals as goal

pub returns-clause-turn : goal.returns-clause-turn
returns-clause-turn c = hops_turn

pub returns-clause-triangle : goal.returns-clause-triangle
returns-clause-triangle c = hops_meet_the_triangle

pub returns-clause-fit : goal.returns-clause-fit
returns-clause-fit c = hops_fit
