use Rattle.std.proofs.Common.{rules}
use Rattle.std.proofs.lemmas.List.Sorted.{IsPartitionPoint-from_clause}
use Rattle.srm_net.specs.Outages.{begins_by}
use Rattle.srm_net.proofs.outages.begun_by.Goals as goal

pub returns-clause-point : goal.returns-clause-point
returns-clause-point c =
    IsPartitionPoint-from_clause (begins_by c.args.link c.args.tick) c.args.outages.now c.partition_point.result
    c.partition_point.ensures.partitioned c.requires (λ a r f' k. search rules)
