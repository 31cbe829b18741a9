use Rattle.srm_member.proofs.Alike.{fixed_timers_ignore_what_is_seen as the_law}
use Rattle.srm_member.proofs.adapting_laws.fixed_timers_ignore_what_is_seen.Goals as goal

pub returns : goal.returns
returns c = the_law
