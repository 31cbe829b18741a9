use Rattle.std.proofs.Common.{◌≡◌, ℕ, ◌<◌, length, take, get_or}
use Rattle.srm_net.proofs.Marks.{Marks}
use Rattle.srm_net.proofs.Numbers.{Apart}
use Rattle.srm_net.proofs.checks.are_hosts.Given as goal

abbrev pub invariant-loop-host : goal.invariant-loop-host
invariant-loop-host l = record {
  size : length l.taken.items ≡ l.nodes;
  taken : Marks l.nodes (take l.host-index l.hosts) l.taken.items;
  below : (k : ℕ) → k < l.host-index → get_or l.hosts k 0 < l.nodes;
  apart : Apart (take l.host-index l.hosts);
}
