use Rattle.srm_net.proofs.SureLosses.{slots_have_one_fate, packets_have_their_own}
use Rattle.srm_net.proofs.laws.losses_come_in_bursts.Goals as goal

pub returns-clause-slots : goal.returns-clause-slots
returns-clause-slots c = slots_have_one_fate

pub returns-clause-packets : goal.returns-clause-packets
returns-clause-packets c = packets_have_their_own
