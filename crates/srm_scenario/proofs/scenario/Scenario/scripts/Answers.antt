use Rattle.std.proofs.Common.{ap, ◌∙◌}
use Rattle.srm_scenario.specs.declared.lists.Lists.{Lists}
use Rattle.srm_scenario.specs.Plain.{PlainScenario}
use Rattle.srm_scenario.proofs.ScriptLists.{all_scripts, all_rise, drawers_within, senders_within}
use Rattle.srm_scenario.proofs.scenario.Scenario.scripts.Goals as goal

pub scripts_of-requires-clause-draws : goal.scripts_of-requires-clause-draws
scripts_of-requires-clause-draws c =
    drawers_within _ c.self.invariant c.deref-2.result.now c.deref-4.result.now
    (c.deref-2.ensures.value ∙ ap (λ (l : Lists). l.members.items) c.deref.ensures)
    (c.deref-4.ensures.value ∙ ap (λ (l : Lists). l.draws.items) c.deref-3.ensures)

pub scripts_of-requires-clause-sessions : goal.scripts_of-requires-clause-sessions
scripts_of-requires-clause-sessions c =
    senders_within _ c.self.invariant c.deref-2.result.now c.deref-6.result.now
    (c.deref-2.ensures.value ∙ ap (λ (l : Lists). l.members.items) c.deref.ensures)
    (c.deref-6.ensures.value ∙ ap (λ (l : Lists). l.sessions.items) c.deref-5.ensures)

pub returns-clause-scripts : goal.returns-clause-scripts
returns-clause-scripts c =
    c.in_ok-scripts.ensures
    ∙ all_scripts c.args.self.now c.deref-2.result.now c.deref-4.result.now c.deref-6.result.now
    (c.deref-2.ensures.value ∙ ap (λ (l : Lists). l.members.items) c.deref.ensures
    ∙ ap (λ (s : PlainScenario). s.members) c.self.view_is)
    (c.deref-4.ensures.value ∙ ap (λ (l : Lists). l.draws.items) c.deref-3.ensures
    ∙ ap (λ (s : PlainScenario). s.draws) c.self.view_is)
    (c.deref-6.ensures.value ∙ ap (λ (l : Lists). l.sessions.items) c.deref-5.ensures
    ∙ ap (λ (s : PlainScenario). s.sessions) c.self.view_is)

pub returns-clause-rise : goal.returns-clause-rise
returns-clause-rise c = all_rise c.args.self.now c.in_ok-scripts.scripts.items (returns-clause-scripts c)
