use Rattle.std.proofs.Common.{◌≡◌, ◌+◌, length, take}
use Rattle.srm_net.specs.Occupancy.{places_of}
use Rattle.srm_net.specs.Rooting.{at}
use Rattle.srm_net.proofs.OccupiedLemmas.{MarksAt}
use Rattle.srm_net.proofs.occupied.marked.Given as goal

abbrev pub invariant-loop-host : goal.invariant-loop-host
invariant-loop-host l = record {
  size : l.size ≡ (at l.rooted.positions.items 0).end;
  long : length l.next.items ≡ l.size + 1;
  marks : MarksAt (places_of l.rooted.positions.items (take l.host-index l.hosts)) l.size l.next.items;
}
