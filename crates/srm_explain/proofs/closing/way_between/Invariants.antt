use Rattle.std.proofs.Common.{◌≡◌, ℕ, List, true, nat_lt}
use Rattle.std.specs.List.{list_all}
use Rattle.srm_net.specs.Network.{IsWalk}
use Rattle.srm_explain.proofs.closing.way_between.Given as goal

-- the links so far lead from the start to this node, and stand before the last one
abbrev pub invariant-loop-link : goal.invariant-loop-link
invariant-loop-link l = record {
  walk : (ns : List ℕ) × IsWalk l.links l.start l.way.items l.node ns;
  before : list_all (λ m. nat_lt m l.last) l.way.items ≡ true;
}
