use Rattle.std.proofs.Common.{arith, ◌≡◌, ap}
use Rattle.srm_crew.proofs.Keeps.{join_keeps, fits_learned}
use Rattle.srm_crew.proofs.bag.Bag.join.Goals as goal

pub absorb-requires-clause-rule : goal.absorb-requires-clause-rule
absorb-requires-clause-rule g c =
    let p = c.first.invariant in
    let weight : (c.first.inside.hold.me.0.client).weight ≡ c.first.inside.weight = ap (λ v. v.weight) p.1 in
    join_keeps _ _ _ _ (omega arith)

pub learn_as-requires-clause-rule : goal.learn_as-requires-clause-rule
learn_as-requires-clause-rule g c =
    let p = c.first.invariant in
    let weight : (c.first.inside.hold.me.0.client).weight ≡ c.first.inside.weight = ap (λ v. v.weight) p.1 in
    let both = ap (λ v. v.weight) c.absorb.ensures.rule in
    fits_learned _ _ (omega arith)
