use Rattle.std.proofs.Common.{sym}
use Rattle.srm_crew.proofs.JobsShared.{done_long, shared_maps}
use Rattle.srm_crew.proofs.bag_crew.BagCrew.map_with_gate.Goals as goal

pub by_workers-requires-clause-long : goal.by_workers-requires-clause-long
by_workers-requires-clause-long g c κs within = λ job done may came.
    done_long (λ b. (goal.Member-dyn g (b.vtable, b.value)).plain b.value) c.args.scenario.now c.args.net.now
    c.args.ledger.now.links job done (sym c.requires.links) came

pub returns : goal.returns
returns g c =
    shared_maps (λ b. (goal.Member-dyn g (b.vtable, b.value)).plain b.value) c.args.scenario.now c.args.net.now c.args.seat
    c.args.jobs.items c.by_workers.result c.by_workers.ensures
