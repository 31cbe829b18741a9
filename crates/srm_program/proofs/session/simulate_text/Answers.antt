use Rattle.std.proofs.Common.{subst}
use Rattle.srm_scenario.specs.Plain.{PlainScenario}
use Rattle.srm_program.specs.Runs.{TellsRefusals}
use Rattle.srm_program.specs.Sessions.{OfRun, TellsSession}
use Rattle.srm_program.proofs.Texts.{refusals_of_text, session_of_text}
use Rattle.srm_program.proofs.session.simulate_text.Goals as goal

pub returns-in-None-clause-report : goal.returns-in-None-clause-report
returns-in-None-clause-report g c =
    session_of_text c.in-Ok.scenario c.args.text.now c.args.seed c.args.options _ _ c.in-Ok.ensures.scenario
    c.if-options.false c.in-None.is c.run_members.result
    (subst (λ (p : PlainScenario). TellsSession p c.args.seed c.args.options.show
    (g.O.Outlet.taken c.args.outlet.now) (g.O.Outlet.taken c.run_members.new.outlet) c.run_members.result)
    c.with_seed-scenario.ensures c.run_members.ensures.report)

pub returns-in-None-clause-refusals : goal.returns-in-None-clause-refusals
returns-in-None-clause-refusals g c =
    refusals_of_text c.in-Ok.scenario c.args.text.now c.args.seed c.args.options _ _ c.in-Ok.ensures.scenario
    c.if-options.false c.in-None.is c.run_members.result
    (subst (λ (p : PlainScenario). OfRun (TellsRefusals p c.args.seed c.args.options
    (g.O.Outlet.taken c.args.outlet.now) (g.O.Outlet.taken c.run_members.new.outlet)) c.run_members.result)
    c.with_seed-scenario.ensures c.run_members.ensures.refusals)
