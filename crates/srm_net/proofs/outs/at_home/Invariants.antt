use Rattle.std.proofs.Common.{◌≡◌, length}
use Rattle.srm_net.proofs.OutLemmas.{IsHome, IsAlone}
use Rattle.srm_net.proofs.outs.at_home.Given as goal

abbrev pub invariant-loop-member : goal.invariant-loop-member
invariant-loop-member l = record {
  long : length l.table.items ≡ length l.rooted.positions.items;
  home : IsHome l.hosts l.table.items l.member;
  alone : IsAlone l.hosts l.table.items l.member;
}
