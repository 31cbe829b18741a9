use Rattle.std.proofs.Common.{◌≡◌, map}
use Rattle.srm_engine.proofs.Openings.{records_from}
use Rattle.srm_program.proofs.members.run_members.OwnLists.{own-1}
use Rattle.srm_program.proofs.members.run_members.Given as goal

-- the members so far hold their opening records
abbrev pub invariant-loop-m : goal.invariant-loop-m
invariant-loop-m g l =
    map (λ b. (own-1.entry b.vtable).1.plain b.value) l.members.items ≡ records_from l.session.scenario.now l.seed 0 l.m
