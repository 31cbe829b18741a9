use Rattle.std.proofs.Common.{refl}
use Rattle.srm_net.specs.Paths.{route_within, route, distance, hops}
use Rattle.srm_net.specs.Least.{least_delay, out}
use Rattle.srm_net.proofs.laws.small_networks.Goals as goal

pub returns-clause-far : goal.returns-clause-far
unfolding route_within route distance
returns-clause-far c = refl

pub returns-clause-near : goal.returns-clause-near
unfolding route_within route distance
returns-clause-near c = refl

pub returns-clause-out : goal.returns-clause-out
unfolding route_within route distance out
returns-clause-out c = refl

pub returns-clause-hops : goal.returns-clause-hops
unfolding route_within route hops
returns-clause-hops c = refl

pub returns-clause-least : goal.returns-clause-least
unfolding least_delay
returns-clause-least c = refl

pub returns-clause-there : goal.returns-clause-there
unfolding route_within route distance
returns-clause-there c = refl

pub returns-clause-back : goal.returns-clause-back
unfolding route_within route distance
returns-clause-back c = refl

pub returns-clause-round : goal.returns-clause-round
unfolding route_within route distance
returns-clause-round c = refl

pub returns-clause-uneven_hops : goal.returns-clause-uneven_hops
unfolding route_within route hops
returns-clause-uneven_hops c = refl

pub returns-clause-uneven_out : goal.returns-clause-uneven_out
unfolding route_within route distance out
returns-clause-uneven_out c = refl

pub returns-clause-uneven_least : goal.returns-clause-uneven_least
unfolding least_delay
returns-clause-uneven_least c = refl

pub returns-clause-no_out : goal.returns-clause-no_out
unfolding out
returns-clause-no_out c = refl

pub returns-clause-no_least : goal.returns-clause-no_least
unfolding least_delay
returns-clause-no_least c = refl
