use Rattle.std.proofs.Common.{refl}
use Rattle.srm_net.specs.Paths.{route_within, route, reaches, crosses, drops_at}
use Rattle.srm_net.proofs.laws.small_outages.Goals as goal

pub returns-clause-near : goal.returns-clause-near
unfolding route_within route reaches
returns-clause-near c = refl

pub returns-clause-far : goal.returns-clause-far
unfolding route_within route reaches
returns-clause-far c = refl

pub returns-clause-dropped : goal.returns-clause-dropped
unfolding route_within route drops_at
returns-clause-dropped c = refl

pub returns-clause-not_crossed : goal.returns-clause-not_crossed
unfolding route_within route crosses
returns-clause-not_crossed c = refl

pub returns-clause-crossed : goal.returns-clause-crossed
unfolding route_within route crosses
returns-clause-crossed c = refl

pub returns-clause-later : goal.returns-clause-later
unfolding route_within route reaches
returns-clause-later c = refl

pub returns-clause-later_crosses : goal.returns-clause-later_crosses
unfolding route_within route crosses
returns-clause-later_crosses c = refl

pub returns-clause-over : goal.returns-clause-over
unfolding route_within route reaches
returns-clause-over c = refl

pub returns-clause-not_yet : goal.returns-clause-not_yet
unfolding route_within route reaches
returns-clause-not_yet c = refl

pub returns-clause-turned : goal.returns-clause-turned
unfolding route_within route drops_at
returns-clause-turned c = refl

pub returns-clause-not_turned : goal.returns-clause-not_turned
unfolding route_within route drops_at
returns-clause-not_turned c = refl
