use Rattle.std.proofs.Common.{arith, ◌≡◌, ap}
use Rattle.srm_crew.proofs.Keeps.{puts_keep, short_learned}
use Rattle.srm_crew.proofs.bag.Bag.put.Goals as goal

pub push_as-requires-clause-rule : goal.push_as-requires-clause-rule
push_as-requires-clause-rule g c =
    let p = c.pass.invariant in
    let weight : (c.pass.inside.hold.me.0.client).weight ≡ c.pass.inside.weight = ap (λ v. v.weight) p.1 in
    let light = c.if-pass-lt-WHOLE.false in (
      puts_keep _ _ _ _ (omega arith) p.2,
      short_learned _ _ (omega arith),
    )
