use Rattle.std.proofs.Common.{◌≡◌, map}
use Rattle.srm_engine.proofs.Openings.{records_from}
use Rattle.srm_engine_and_report_tests.proofs.opening.members_of.Given as goal

-- the members so far hold their opening records
abbrev pub invariant-loop-m : goal.invariant-loop-m
invariant-loop-m g l =
    map (λ b. (goal.Member-dyn g (b.vtable, b.value)).plain b.value) l.members.items ≡ records_from l.scenario 0 0 l.m
