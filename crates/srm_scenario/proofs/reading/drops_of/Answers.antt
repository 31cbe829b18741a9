use Rattle.srm_scenario.proofs.Once.{drops_once}
use Rattle.srm_scenario.proofs.reading.drops_of.Goals as goal

pub returns-in-Ok : goal.returns-in-Ok
returns-in-Ok c =
    let listed = drops_once c.in-Ok.rules.listed c.args.drops.now c.in-Ok.ensures.once_in_order c.in-Ok.ensures.entries in
    λ i. record {
      listed = listed i;
      outages = c.in-Ok.ensures.outages i;
      losses = c.in-Ok.ensures.losses i;
      seed = c.in-Ok.ensures.seed i;
    }
