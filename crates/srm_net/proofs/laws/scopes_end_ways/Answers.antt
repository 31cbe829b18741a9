use Rattle.srm_net.proofs.Scopes.{scopes_leave_the_first, no_scope_ends_no_way, narrow_scopes_take_part, wide_scopes_decide_nothing}
use Rattle.srm_net.proofs.laws.scopes_end_ways.Goals as goal

pub returns-clause-first : goal.returns-clause-first
returns-clause-first c = scopes_leave_the_first

pub returns-clause-none : goal.returns-clause-none
returns-clause-none c = no_scope_ends_no_way

pub returns-clause-narrow : goal.returns-clause-narrow
returns-clause-narrow c = narrow_scopes_take_part

pub returns-clause-wide : goal.returns-clause-wide
returns-clause-wide c = wide_scopes_decide_nothing
