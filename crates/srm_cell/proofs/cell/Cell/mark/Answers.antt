use Rattle.std.proofs.Common.{Some, sym, subst}
use Rattle.srm_cell.specs.Cells.{first_mark}
use Rattle.srm_cell.specs.Pending.{Stands}
use Rattle.srm_cell.specs.Views.{plain_cell}
use Rattle.srm_cell.proofs.Nexts.{mark_known}
use Rattle.srm_cell.proofs.cell.Cell.mark.Goals as goal

pub returns : goal.returns
returns g c =
    let m = c.args.self.now.number in
    let p = plain_cell g.M.Participant.plain c.args.self.now in
    subst (λ q. Stands m p (Some q) (first_mark m p p.script)) (sym c.marked.ensures)
    (mark_known m p p.script c.in_ok-mark.ensures.0 c.in_ok-mark.mark c.in_ok-mark.ensures.1)
