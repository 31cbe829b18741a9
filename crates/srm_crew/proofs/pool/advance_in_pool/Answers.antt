use Rattle.srm_crew.proofs.Gathering.{each_advanced}
use Rattle.srm_crew.proofs.pool.advance_in_pool.Goals as goal

pub returns : goal.returns
returns g c = each_advanced (λ b. (goal.Member-dyn g (b.vtable, b.value)).plain b.value) c.args.scenario.now c.args.net.now
    c.args.jobs.items c.in_pool.result c.in_pool.ensures
