use Rattle.srm_crew.proofs.Keeps.{rests_learned}
use Rattle.srm_crew.proofs.bag.Bag.empty.Goals as goal

pub learn_as-requires-clause-rule : goal.learn_as-requires-clause-rule
learn_as-requires-clause-rule g c = rests_learned _ _
