use Rattle.std.proofs.Common.{◌≡◌, ◌-◌, ◌^◌, ◌++◌, min, List, subst, arith}
use Rattle.srm_cell.specs.declared.flight.Flight.{Flight}
use Rattle.srm_cell.specs.Flights.{arriving_before}
use Rattle.srm_cell.proofs.Arrivals.{arriving_both, arriving_ordered}
use Rattle.srm_cell.proofs.inbox.Inbox.arriving_before.Goals as goal

pub returns : goal.returns
returns c =
    let strays = c.self.inside.strays in
    let line = c.self.inside.line in
    let both = arriving_both c.args.till strays line in
    let in_order = arriving_ordered c.args.till (strays ++ line) in
    subst (λ (l : List Flight). c.saturating_add.result ≡ min (arriving_before c.args.till l) (2 ^ 64 - 1)) c.self.view_is (omega arith)
