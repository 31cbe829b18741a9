use Rattle.std.proofs.Common.{◌≡◌, ℕ, [], true, length, take, reverse}
use Rattle.srm_net.specs.Growth.{attached, place_in}
use Rattle.srm_net.specs.Network.{plain_network}
use Rattle.srm_net.specs.Paths.{is_in}
use Rattle.srm_net.specs.Rooting.{at, IsPosition}
use Rattle.srm_net.proofs.Rootings.{HasEnd}
use Rattle.srm_net.proofs.rooted.Rooted.of.Given as goal

abbrev pub invariant-loop-index : goal.invariant-loop-index
invariant-loop-index l = record {
  long : length l.positions.items ≡ l.nodes;
  told : (u : ℕ) → is_in (attached (reverse (take l.index l.steps))) u ≡ true
      → IsPosition (plain_network l.nodes l.links []) (place_in (reverse l.steps)) u (at l.positions.items u);
  ended : (u : ℕ) → is_in (attached (reverse (take l.index l.steps))) u ≡ true
      → HasEnd l.ends.items (place_in (reverse l.steps)) u (at l.positions.items u);
}
