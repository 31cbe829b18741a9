use Rattle.std.proofs.Common.{◌≡◌, length}
use Rattle.srm_net.proofs.ToldLemmas.{SidesBelow}
use Rattle.srm_net.proofs.tree.Tree.all_sides.Given as goal

abbrev pub invariant-loop-link : goal.invariant-loop-link
invariant-loop-link l = record {
  end : l.link-end ≡ length l.self.links;
  long : length l.all.items ≡ l.link;
  told : SidesBelow l.self l.link l.all.items;
}
