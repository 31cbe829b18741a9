use Rattle.std.proofs.Common.{length}
use Rattle.srm_crew_tests.specs.Handed.{AreInPlace}
use Rattle.srm_crew_tests.proofs.crew_tests.handing.idle_jobs.Given as goal

-- a crew may be handed the jobs so far
abbrev pub invariant-loop : goal.invariant-loop
invariant-loop g l = AreInPlace (λ b. (goal.Member-dyn g (b.vtable, b.value)).plain b.value) (length l.net.hosts) l.jobs.items
