use Rattle.std.proofs.Common.{drop}
use Rattle.srm_team.specs.Tells.{Filled}
use Rattle.srm_team.specs.Relays.{items_of}
use Rattle.srm_team.proofs.relay.fill_first.Given as goal

abbrev pub invariant-loop : goal.invariant-loop
invariant-loop g l = Filled (λ x d. g.W.Work.gives l.work x d) (items_of (drop l.given l.ends.front)) l.slots.items
