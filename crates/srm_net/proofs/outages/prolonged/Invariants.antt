use Rattle.std.proofs.Common.{◌≡◌, ℕ, ◌<◌, length}
use Rattle.srm_net.specs.Outages.{LastsLongest}
use Rattle.srm_net.proofs.outages.prolonged.Given as goal

abbrev pub invariant-loop-place : goal.invariant-loop-place
invariant-loop-place l = record {
  size : length l.spans.items ≡ l.place;
  each : (i : ℕ) → i < l.place → LastsLongest l.sorted l.spans.items i;
}
