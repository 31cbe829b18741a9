use Rattle.std.proofs.Common.{Some, sym, subst}
use Rattle.srm_cell.specs.Cells.{due_in, next_timer}
use Rattle.srm_cell.specs.Pending.{Stands}
use Rattle.srm_cell.specs.Views.{plain_cell}
use Rattle.srm_cell.proofs.Nexts.{timer_known}
use Rattle.srm_cell.proofs.cell.Cell.timer.Goals as goal

pub returns : goal.returns
returns g c =
    let m = c.args.self.now.number in
    let p = plain_cell g.M.Participant.plain c.args.self.now in
    subst (λ q. Stands m p (Some q) (next_timer m p (due_in p.holds))) (sym c.expiring.ensures)
    (timer_known m p (due_in p.holds) c.in_ok-due.due c.in_ok-due.ensures)
