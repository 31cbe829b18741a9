use Rattle.srm_net.proofs.LawProofs.{out_fits, out_of_the_only_one}
use Rattle.srm_net.proofs.laws.out_fits.Goals as goal

pub returns-clause-least : goal.returns-clause-least
returns-clause-least c = out_fits

pub returns-clause-none : goal.returns-clause-none
returns-clause-none c = out_of_the_only_one
