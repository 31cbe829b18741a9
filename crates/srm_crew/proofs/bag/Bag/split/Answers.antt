use Rattle.std.proofs.Common.{arith, ◌≡◌, ap}
use Rattle.srm_crew.proofs.Keeps.{split_keeps}
use Rattle.srm_crew.proofs.bag.Bag.split.Goals as goal

pub another-theirs-requires-clause-rule : goal.another-theirs-requires-clause-rule
another-theirs-requires-clause-rule g c =
    let p = c.pass.invariant in
    let weight : (c.pass.inside.hold.me.0.client).weight ≡ c.pass.inside.weight = ap (λ v. v.weight) p.1 in
    let two = c.if-pass-lt2.false in
    split_keeps _ _ (omega arith)
