use Rattle.std.proofs.Common.{◌≡◌, sym, subst, slice_get, Some, arith}
use Rattle.std.proofs.lemmas.Bool.Decides.{nat_tests}
use Rattle.srm_team.proofs.Filling.{has, filled_set}
use Rattle.srm_team.proofs.leader_ends.keep.Goals as goal

pub returns : goal.returns
returns g c =
    let asked = c.args.asked.now.value in
    let answer = c.answer.inside in
    let same : answer.number ≡ c.args.number = grind (arith, nat_tests, c.if-other-number.false) in
    let there = has answer.front answer.number c.answer.invariant.0 in
    let e : asked ≡ there.0 = c.beside.ensures c.args.number asked there.0 c.requires.asked
    (subst (λ n. slice_get answer.front n ≡ Some there.0) same there.1) in
    record {
      filled = filled_set (λ x d. g.W.Work.gives asked.work x d) asked.items.items c.args.slots.now.items answer.place
          answer.done c.requires.filled
          (λ x h. subst (λ v. g.W.Work.gives v.work x answer.done) (sym e)
          (c.answer.invariant.1 there.0 x there.1 (subst (λ v. slice_get v.items.items answer.place ≡ Some x) e h)))
          (omega (arith, c.if-place-len.false, c.len.ensures));
    }
