use Rattle.srm_net.proofs.SureLosses.{sure_loss_is_outage, sure_loss_drops_all}
use Rattle.srm_net.proofs.laws.sure_losses_drop_all.Goals as goal

pub returns-clause-outage : goal.returns-clause-outage
returns-clause-outage c = sure_loss_is_outage

pub returns-clause-all : goal.returns-clause-all
returns-clause-all c = sure_loss_drops_all
