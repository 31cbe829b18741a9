use Rattle.std.proofs.Common.{◌+◌, ◌-◌, ◌∷◌, [], ◌++◌, sym, ap, ◌∙◌, append_assoc}
use Rattle.srm_net.specs.Names.{name_in}
use Rattle.srm_member.specs.React.{lose_from, names_from}
use Rattle.srm_member.proofs.Losses.{lose_from-next, lose_from-end, names_from-next}
use Rattle.srm_member.proofs.member_state.MemberState.lose_from.Goals as goal

pub loop-number-preserved : goal.loop-number-preserved
loop-number-preserved c =
    let k = c.loop-number.number in
    record {
      fixed = c.in_ok-lose_one.ensures.fixed ∙ c.loop-number.invariant.fixed;
      self = ap (lose_from c.args.at c.args.page (c.args.to - (k + 1)) (k + 1)) c.in_ok-lose_one.ensures.ok
          ∙ sym (lose_from-next c.args.at c.args.page k c.args.to c.loop-number.self c.loop-number-test.true)
          ∙ c.loop-number.invariant.self;
      lost = ap (λ l. l ++ names_from c.args.page (c.args.to - (k + 1)) (k + 1)) c.in_ok-push.ensures.ok
          ∙ append_assoc c.loop-number.lost (name_in c.args.page k ∷ []) (names_from c.args.page (c.args.to - (k + 1)) (k + 1))
          ∙ ap (λ l. c.loop-number.lost ++ l) (sym (names_from-next c.args.page k c.args.to c.loop-number-test.true))
          ∙ c.loop-number.invariant.lost;
    }

pub returns-clause-ok : goal.returns-clause-ok
returns-clause-ok c = sym (lose_from-end c.args.at c.args.page c.loop-number.number c.args.to c.loop-number.self c.loop-number-test.false)
    ∙ c.loop-number.invariant.self
