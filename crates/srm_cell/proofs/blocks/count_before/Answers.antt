use Rattle.std.proofs.Common.{rules, ◌≤◌, subst}
use Rattle.std.proofs.lemmas.List.Sorted.{IsPartitionPoint-from_clause}
use Rattle.srm_cell.proofs.Arrivals.{arrives, arrivals_first, arriving_point}
use Rattle.srm_cell.proofs.blocks.count_before.Goals as goal

pub returns : goal.returns
returns c =
    let fs = c.args.ring.now.items in
    let point = IsPartitionPoint-from_clause (arrives c.args.till) fs c.partition_point.result
    c.partition_point.ensures.partitioned (arrivals_first c.args.till fs c.requires) (λ a r f' k. search rules) in
    arriving_point c.args.till fs c.partition_point.result
    (subst (λ n. c.partition_point.result ≤ n) c.args.ring.now.ok.0 c.partition_point.ensures.bound) point
