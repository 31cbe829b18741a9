use Rattle.std.proofs.Common.{◌≡◌, ◌+◌, ◌-◌, arith}
use Rattle.srm_program.proofs.replications.replicate.Goals as goal

pub returns-clause-failures : goal.returns-clause-failures
returns-clause-failures g c = (c.by_team.ensures c.args.session.scenario.now (λ seed r made. made)).0

pub returns-clause-report : goal.returns-clause-report
returns-clause-report g c =
    let count : c.args.seeds.first + c.from.result - c.args.seeds.first ≡ c.args.seeds.count = omega (arith, c.from.ensures) in
    rw count at (c.by_team.ensures c.args.session.scenario.now (λ seed r made. made)).1
