use Rattle.std.proofs.Common.{length}
use Rattle.srm_crew_tests.proofs.HandedLemmas.{none_handed}
use Rattle.srm_crew_tests.proofs.crew_tests.mapped.first_jobs.Goals as goal

pub loop-m-init : goal.loop-m-init
loop-m-init g c = rw c.new-jobs.ensures.items (none_handed (λ b. (goal.Member-dyn g (b.vtable, b.value)).plain b.value)
    (length c.args.net.now.hosts))
