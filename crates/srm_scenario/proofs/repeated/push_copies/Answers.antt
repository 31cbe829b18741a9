use Rattle.std.proofs.Common.{◌∙◌, ◌++◌, ◌+◌, ◌-◌, ℕ, List, ap, sym}
use Rattle.srm_scenario.specs.Described.{copies}
use Rattle.srm_scenario.proofs.Repetition.{not_all, all_later, with_next, left_out, kept}
use Rattle.srm_scenario.proofs.repeated.push_copies.Goals as goal

pub returns-in_default-clause-fit : goal.returns-in_default-clause-fit
returns-in_default-clause-fit g c =
    let f : ℕ → g.row.E.Denot = λ k. g.E.Repeated.copy k c.args.every c.args.element.now in
    let no = left_out (g.E.Repeated.in_range (f c.loop-k.k)) (f c.loop-k.k) c.in_ok-copy.field-0 c.in_ok-copy.ensures c.in_default.is in
    sym (not_all f g.E.Repeated.in_range c.loop-k.k c.args.times c.loop-k-test.true no) ∙ c.loop-k.invariant.fit

pub loop-k-preserved : goal.loop-k-preserved
loop-k-preserved g c =
    let f : ℕ → g.row.E.Denot = λ k. g.E.Repeated.copy k c.args.every c.args.element.now in
    let yes = kept (g.E.Repeated.in_range (f c.loop-k.k)) (f c.loop-k.k) c.in-Some.copy c.in_ok-copy.field-0 c.in_ok-copy.ensures
    c.in-Some.is in
    record {
      fit = all_later f g.E.Repeated.in_range c.loop-k.k c.args.times c.loop-k-test.true yes.0 ∙ c.loop-k.invariant.fit;
      pushed = ap (λ (l : List g.row.E.Denot). l ++ copies f (c.loop-k.k + 1) (c.args.times - (c.loop-k.k + 1))) c.in_ok-push.ensures.items
          ∙ with_next f g.E.Repeated.in_range c.loop-k.k c.args.times c.loop-k-test.true c.loop-k.elements.items c.in-Some.copy yes.1
          ∙ c.loop-k.invariant.pushed;
    }
