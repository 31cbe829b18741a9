use Rattle.std.proofs.Common.{◌≡◌, map}
use Rattle.srm_engine.proofs.Openings.{records_from}
use Rattle.srm_examples.proofs.trace_of.outcome_of.OwnLists.{own-1}
use Rattle.srm_examples.proofs.trace_of.outcome_of.Given as goal

-- the members so far hold their opening records
abbrev pub invariant-loop-m : goal.invariant-loop-m
invariant-loop-m l = map (λ b. (own-1.entry b.vtable).1.plain b.value) l.members.items ≡ records_from l.scenario l.seed 0 l.m
