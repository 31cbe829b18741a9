use Rattle.std.proofs.Common.{◌≡◌, [], All, length}
use Rattle.srm_interfaces.proofs.keeping.none_of.Given as goal

abbrev pub invariant-loop : goal.invariant-loop
invariant-loop g l = (length l.own.items ≡ l.counter) × All (λ k. g.W.Watch.keeps l.watch k []) l.own.items
