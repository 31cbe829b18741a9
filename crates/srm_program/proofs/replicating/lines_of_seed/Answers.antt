use Rattle.std.proofs.Common.{◌∙◌, ap, subst}
use Rattle.srm_scenario.specs.Plain.{PlainScenario, with_seed}
use Rattle.srm_program.specs.Replications.{GivesLines}
use Rattle.srm_program.proofs.replicating.lines_of_seed.Goals as goal

pub returns : goal.returns
returns c =
    subst (λ (p : PlainScenario). GivesLines p c.args.options.show c.args.seed c.lines_of_run.result)
    (c.with_seed-seeded.ensures ∙ ap (λ (p : PlainScenario). with_seed p c.args.seed) c.in-Ok.ensures) c.lines_of_run.ensures
