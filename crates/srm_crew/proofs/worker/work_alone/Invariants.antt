use Rattle.std.proofs.Common.{◌≡◌}
use Rattle.srm_crew.specs.Shared.{HasWorked}
use Rattle.srm_crew.proofs.worker.work_alone.Given as goal

abbrev pub invariant-loop : goal.invariant-loop
invariant-loop g l = record {
  worked : HasWorked (λ x r. goal.F-post g l.work x r) g.D.Counted.numbers l.fn.pass l.fn.seat l.fn.results.items l.pass l.seat
      l.results.items;
  bag : l.pass.bag ≡ l.bag.name;
  ledger : l.seat.ledger ≡ l.ledger.name;
}
