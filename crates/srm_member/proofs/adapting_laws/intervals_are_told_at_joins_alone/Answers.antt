use Rattle.srm_member.proofs.Alike.{fixed_timers_are_told_at_joins_alone, listeners_tell_no_intervals}
use Rattle.srm_member.proofs.adapting_laws.intervals_are_told_at_joins_alone.Goals as goal

pub returns-clause-fixed : goal.returns-clause-fixed
returns-clause-fixed c = fixed_timers_are_told_at_joins_alone

pub returns-clause-listeners : goal.returns-clause-listeners
returns-clause-listeners c = listeners_tell_no_intervals
