use Rattle.srm_net.proofs.SureLosses.{seed_decides_losses_alone, others_decide_nothing}
use Rattle.srm_net.proofs.laws.losses_are_of_one_packet.Goals as goal

pub returns-clause-seed : goal.returns-clause-seed
returns-clause-seed c = seed_decides_losses_alone

pub returns-clause-others : goal.returns-clause-others
returns-clause-others c = others_decide_nothing
