use Rattle.std.proofs.Common.{◌≡◌, Err, ap, rules}
use Rattle.srm_team.specs.declared.fault.TeamFault.TheVariants.{Left}
use Rattle.srm_crew.proofs.Ordering.{none_empty, ordered}
use Rattle.srm_crew.proofs.order.in_order.Goals as goal

pub returns-in-Ok : goal.returns-in-Ok
returns-in-Ok g c =
    ordered c.args.indices.now c.args.results.items c.in-Ok.all.items c.scatter.new.slots.items c.requires.indices c.scatter.ensures.long
    (λ k from far. c.scatter.ensures.filled k far) c.in-Ok.ensures.held

pub prove-unreachable-requires : goal.prove-unreachable-requires
prove-unreachable-requires g c =
    let is : c.in-Err.fault ≡ Left = search rules in
    none_empty c.args.indices.now c.args.results.items c.scatter.new.slots.items c.requires.once c.requires.indices
    c.scatter.ensures.long (λ k from far. c.scatter.ensures.filled k far) (c.in-Err.ensures.left (ap Err is))
