use Rattle.std.proofs.Common.{rules, ◌≤◌, subst}
use Rattle.std.proofs.lemmas.List.Sorted.{IsPartitionPoint-from_clause}
use Rattle.srm_cell.specs.InboxLines.{goes_before}
use Rattle.srm_cell.specs.Flights.{flight_cmp, flight_total}
use Rattle.srm_cell.proofs.InboxLines.{flight_at, partitioned}
use Rattle.srm_cell.proofs.line.place_in.Goals as goal

pub returns : goal.returns
returns c =
    let fs = c.args.ring.now.items in
    let point = IsPartitionPoint-from_clause (goes_before c.args.flight) fs c.partition_point.result
    c.partition_point.ensures.partitioned (partitioned flight_cmp flight_total (flight_at c.args.flight) fs c.requires)
    (λ a r f' k. search rules) in
    (subst (λ n. c.partition_point.result ≤ n) c.args.ring.now.ok.0 c.partition_point.ensures.bound, point)
