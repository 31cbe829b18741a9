use Rattle.srm_team.specs.Tells.{Filled}
use Rattle.srm_team.proofs.leader_ends.LeaderEnds.fill.Given as goal

abbrev pub invariant-loop : goal.invariant-loop
invariant-loop g l = Filled (λ x d. g.W.Work.gives l.asked.value.work x d) l.asked.value.items.items l.slots.items
