use Rattle.std.proofs.Common.{◌∙◌, map, ap}
use Rattle.srm_engine.proofs.Openings.{opening-push}
use Rattle.srm_engine_and_report_tests.proofs.opening.members_of.Goals as goal

pub loop-m-preserved : goal.loop-m-preserved
loop-m-preserved g c =
    ap (map (λ b. (goal.Member-dyn g (b.vtable, b.value)).plain b.value)) c.in_ok-push.ensures.items
    ∙ opening-push (λ b. (goal.Member-dyn g (b.vtable, b.value)).plain b.value) c.args.scenario.now 0 c.loop-m.m
    c.loop-m.members.items _ c.loop-m.invariant c.in_ok-member_of.ensures
