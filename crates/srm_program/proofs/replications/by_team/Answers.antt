use Rattle.std.proofs.Common.{sym, subst}
use Rattle.srm_program.specs.Replications.{MakesEach}
use Rattle.srm_program.proofs.replications.by_team.Goals as goal

pub returns-in-Ok : goal.returns-in-Ok
returns-in-Ok g c = λ p each.
    c.lead_beside.ensures p
    (subst (λ w. MakesEach (g.W.Work.gives w) p c.args.span.show) (sym c.in-Ok.ensures.asked.0) each)
