use Rattle.srm_net.proofs.LawProofs.{least_delay_fits, no_link_no_two}
use Rattle.srm_net.proofs.laws.least_delay_fits.Goals as goal

pub returns-clause-least : goal.returns-clause-least
returns-clause-least c = least_delay_fits

pub returns-clause-none : goal.returns-clause-none
returns-clause-none c = no_link_no_two
