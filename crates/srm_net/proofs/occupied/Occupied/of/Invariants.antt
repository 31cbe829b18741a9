use Rattle.std.proofs.Common.{◌≡◌, ℕ, ◌+◌, ◌<◌, ◌≤◌, cond, length, slice_index}
use Rattle.srm_net.specs.Occupancy.{places_of, IsNextFree}
use Rattle.srm_net.specs.Paths.{is_in}
use Rattle.srm_net.specs.Rooting.{at}
use Rattle.srm_net.proofs.occupied.Occupied.of.Given as goal

abbrev pub invariant-loop-index : goal.invariant-loop-index
invariant-loop-index l = record {
  size : l.size ≡ (at l.rooted.positions.items 0).end;
  long : length l.next.items ≡ l.size + 1;
  marks : (i : ℕ) → i < l.index → slice_index l.next.items i
      ≡ cond (is_in (places_of l.rooted.positions.items l.hosts) i) i l.size;
  told : (i : ℕ) → l.index ≤ i → i ≤ l.size
      → IsNextFree (places_of l.rooted.positions.items l.hosts) l.size i (slice_index l.next.items i);
}
