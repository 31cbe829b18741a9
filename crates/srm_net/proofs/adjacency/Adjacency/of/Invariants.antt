use Rattle.std.proofs.Common.{◌≡◌, length}
use Rattle.srm_net.proofs.Adjacent.{LastTold, EarlierTold}
use Rattle.srm_net.proofs.adjacency.Adjacency.of.Given as goal

abbrev pub invariant-loop-number : goal.invariant-loop-number
invariant-loop-number l = record {
  nodes : length l.last.items ≡ l.nodes;
  last : LastTold l.links l.number l.last.items;
  long : length l.earlier.items ≡ l.number;
  earlier : EarlierTold l.links l.number l.earlier.items;
}
