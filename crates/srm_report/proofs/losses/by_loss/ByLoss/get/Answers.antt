use Rattle.srm_report.proofs.Compare.{loss_find}
use Rattle.srm_report.proofs.losses.by_loss.ByLoss.get.Goals as goal

pub returns : goal.returns
returns g c = simp loss_find (cc)
