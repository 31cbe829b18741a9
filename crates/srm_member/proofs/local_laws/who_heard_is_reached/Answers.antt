use Rattle.srm_member.proofs.LocalProofs.{who_heard_is_reached as the_law}
use Rattle.srm_member.proofs.local_laws.who_heard_is_reached.Goals as goal

pub returns : goal.returns
returns c = the_law
