use Rattle.std.proofs.Common.{ap, subst, sym, ◌∙◌, List}
use Rattle.srm_net.specs.Orders.{Rises}
use Rattle.srm_scenario.specs.declared.lists.Lists.{Lists}
use Rattle.srm_scenario.specs.declared.mark.Mark.{Mark}
use Rattle.srm_scenario.specs.Plain.{PlainScenario, mark_cmp}
use Rattle.srm_scenario.proofs.Marks.{script_by_parts, scripts_rise}
use Rattle.srm_scenario.proofs.scenario.Scenario.script.Goals as goal

pub returns-clause-script : goal.returns-clause-script
returns-clause-script c =
    c.in_ok-marks.ensures
    ∙ script_by_parts c.args.self.now c.args.m c.member-member.result.now c.deref-2.result.now c.deref-4.result.now c.member-member.ensures
    (c.deref-2.ensures.value ∙ ap (λ (l : Lists). l.draws.items) c.deref.ensures
    ∙ ap (λ (s : PlainScenario). s.draws) c.self.view_is)
    (c.deref-4.ensures.value ∙ ap (λ (l : Lists). l.sessions.items) c.deref-3.ensures
    ∙ ap (λ (s : PlainScenario). s.sessions) c.self.view_is)

pub returns-clause-rises : goal.returns-clause-rises
returns-clause-rises c = subst (λ (ms : List Mark). Rises mark_cmp ms) (sym (returns-clause-script c))
    (scripts_rise c.args.self.now c.args.m)
