use Rattle.srm_member.proofs.LocalProofs.{serving_is_sound as the_law}
use Rattle.srm_member.proofs.local_laws.serving_is_sound.Goals as goal

pub returns : goal.returns
returns c = the_law
