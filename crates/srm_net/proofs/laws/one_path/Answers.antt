use Rattle.srm_net.proofs.Numbers.{apart_from_distinct, distinct_from_apart}
use Rattle.srm_net.proofs.RouteLemmas.{route_path, route_only}
use Rattle.srm_net.proofs.laws.one_path.Goals as goal

pub returns : goal.returns
returns c w t u v hu hv =
    let r = route_path w t u v hu hv in
    ((r.0, r.1.0, distinct_from_apart r.0 r.1.1), λ ls p. route_only w t u v hu hv ls p.0 p.1 (apart_from_distinct p.0 p.2))
