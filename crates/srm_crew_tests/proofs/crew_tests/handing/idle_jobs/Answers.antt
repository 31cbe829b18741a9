use Rattle.std.proofs.Common.{length}
use Rattle.srm_crew_tests.proofs.HandedLemmas.{none_handed, none_known}
use Rattle.srm_crew_tests.proofs.crew_tests.handing.idle_jobs.Goals as goal

pub loop-init : goal.loop-init
loop-init g c = rw c.new-jobs.ensures.items (none_handed (λ b. (goal.Member-dyn g (b.vtable, b.value)).plain b.value)
    (length c.args.net.now.hosts))

pub add_job-requires-clause-known : goal.add_job-requires-clause-known
add_job-requires-clause-known g c = rw c.new.ensures.items
    (none_known (λ b. (goal.Member-dyn g (b.vtable, b.value)).plain b.value) (length c.args.net.now.hosts))
