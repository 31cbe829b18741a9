use Rattle.srm_report.proofs.Compare.{loss_put}
use Rattle.srm_report.proofs.losses.by_loss.ByLoss.put.Goals as goal

pub returns : goal.returns
returns g c = rw (← c.self.view_is, loss_put) c.in_ok-insert.ensures.entries
