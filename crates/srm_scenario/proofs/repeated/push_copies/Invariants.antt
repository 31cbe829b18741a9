use Rattle.std.proofs.Common.{◌≡◌, ◌++◌, ◌-◌, ℕ}
use Rattle.std.specs.List.{list_all}
use Rattle.srm_scenario.specs.Described.{copies}
use Rattle.srm_scenario.proofs.repeated.push_copies.Given as goal

abbrev pub invariant-loop-k : goal.invariant-loop-k
invariant-loop-k g l =
    let copy = λ (k : ℕ). g.E.Repeated.copy k l.every l.element in
    record {
      fit : list_all g.E.Repeated.in_range (copies copy l.k (l.times - l.k)) ≡ list_all g.E.Repeated.in_range (copies copy 0 l.times);
      pushed : l.elements.items ++ copies copy l.k (l.times - l.k) ≡ l.fn.elements.items ++ copies copy 0 l.times;
    }
