use Rattle.std.proofs.Common.{◌≡◌, []}
use Rattle.srm_crew.proofs.shared.put_all.Given as goal

abbrev pub invariant-loop-item : goal.invariant-loop-item
invariant-loop-item g l = record {
  bag : l.pass.bag ≡ l.bag.name;
  weight : l.pass.weight ≡ 65536;
  put : l.pass.put ≡ l.yielded;
  taken : l.pass.taken ≡ [];
}
