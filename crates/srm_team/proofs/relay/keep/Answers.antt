use Rattle.std.proofs.Common.{◌≡◌, subst, arith}
use Rattle.std.proofs.lemmas.Bool.Decides.{nat_tests}
use Rattle.srm_team.specs.Tells.{Answers}
use Rattle.srm_team.proofs.Relaying.{kept}
use Rattle.srm_team.proofs.relay.keep.Goals as goal

pub returns-then-at-len : goal.returns-then-at-len
returns-then-at-len g c =
    let answer = c.answer.inside in
    let first : answer.place ≡ 0 = grind (arith, nat_tests, c.if-place-ne0.false) in
    kept c.args.work (λ w x d. g.W.Work.gives w x d) c.args.front.now answer.front c.args.given answer.number c.args.slots.now.items
    answer.done c.requires.asked c.requires.filled c.beside.ensures c.answer.invariant.0
    (subst (λ p. Answers (λ w x d. g.W.Work.gives w x d) answer.front answer.number p answer.done) first c.answer.invariant.1)
    (omega (arith, c.if-number-given.false))
    (omega (arith, c.if-at-len.true, c.len.ensures, c.if-number-given.false))
