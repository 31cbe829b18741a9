use Rattle.std.proofs.Common.{◌≡◌, length, sym, subst, arith}
use Rattle.srm_team.specs.Tells.{Filled}
use Rattle.srm_team.proofs.Filling.{if_ok, told}
use Rattle.srm_team.proofs.leader_ends.LeaderEnds.map.Goals as goal

pub fill-requires-clause-filled : goal.fill-requires-clause-filled
fill-requires-clause-filled g c =
    let long : length c.in-Ok.slots.items ≡ length c.args.items.items = omega (arith, c.in-Ok.ensures.0, c.args.items.ok.0) in
    subst (λ b. Filled (λ x d. g.W.Work.gives b.work x d) b.items.items c.in-Ok.slots.items) (sym c.of-asked.ensures)
    (long, λ p d h. absurd (c.in-Ok.ensures.1 p d h))

pub returns-clause-given : goal.returns-clause-given
returns-clause-given g c = if_ok _ _ c.collect.result c.collect.ensures.held (λ v same.
    told (λ w x d. g.W.Work.gives w x d) c.of-asked.result.value (record { work = c.args.work; items = c.args.items })
    c.of-asked.ensures c.fill.new.slots.items v.items c.fill.ensures.filled same)
