use Rattle.std.proofs.Common.{arith, ◌≡◌, ap}
use Rattle.srm_crew.proofs.Keeps.{takes_keep, rests_learned}
use Rattle.srm_crew.proofs.bag.Bag.take.Goals as goal

pub pop_as-requires-clause-rule : goal.pop_as-requires-clause-rule
pop_as-requires-clause-rule g c =
    let p = c.pass.invariant in
    let weight : (c.pass.inside.hold.me.0.client).weight ≡ c.pass.inside.weight = ap (λ v. v.weight) p.1 in (
      takes_keep _ _ (omega arith),
      rests_learned _ _,
    )
