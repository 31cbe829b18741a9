use Rattle.std.proofs.Common.{Some, sym, subst}
use Rattle.srm_cell.specs.Cells.{first_arrival}
use Rattle.srm_cell.specs.Pending.{Stands}
use Rattle.srm_cell.specs.Views.{plain_cell}
use Rattle.srm_cell.proofs.Nexts.{arrival_known}
use Rattle.srm_cell.proofs.cell.Cell.arrival.Goals as goal

pub returns : goal.returns
returns g c =
    let m = c.args.self.now.number in
    let p = plain_cell g.M.Participant.plain c.args.self.now in
    subst (λ q. Stands m p (Some q) (first_arrival m p p.inbox)) (sym c.arriving.ensures)
    (arrival_known m p p.inbox c.in_ok-time.time c.in_ok-time.id c.in_ok-time.ensures)
