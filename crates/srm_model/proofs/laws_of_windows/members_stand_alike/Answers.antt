use Rattle.srm_model.proofs.StandAlike.{members_stand_alike as the_law}
use Rattle.srm_model.proofs.laws_of_windows.members_stand_alike.Goals as goal

pub returns : goal.returns
returns c = the_law
