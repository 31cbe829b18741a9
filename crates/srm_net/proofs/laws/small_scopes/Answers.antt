use Rattle.std.proofs.Common.{refl}
use Rattle.srm_net.specs.Paths.{route_within, route, hops, reaches, crosses, drops_at}
use Rattle.srm_net.proofs.laws.small_scopes.Goals as goal

pub returns-clause-near : goal.returns-clause-near
unfolding route_within route hops reaches
returns-clause-near c = refl

pub returns-clause-far : goal.returns-clause-far
unfolding route_within route hops reaches
returns-clause-far c = refl

pub returns-clause-within : goal.returns-clause-within
unfolding route_within route hops reaches
returns-clause-within c = refl

pub returns-clause-crossed : goal.returns-clause-crossed
unfolding route_within route crosses
returns-clause-crossed c = refl

pub returns-clause-not_crossed : goal.returns-clause-not_crossed
unfolding route_within route crosses
returns-clause-not_crossed c = refl

pub returns-clause-not_dropped : goal.returns-clause-not_dropped
unfolding route_within route drops_at
returns-clause-not_dropped c = refl

pub returns-clause-dropped : goal.returns-clause-dropped
unfolding route_within route drops_at
returns-clause-dropped c = refl

pub returns-clause-to_nobody : goal.returns-clause-to_nobody
unfolding route_within route crosses
returns-clause-to_nobody c = refl

pub returns-clause-nowhere : goal.returns-clause-nowhere
unfolding route_within route hops reaches
returns-clause-nowhere c = refl
