use Rattle.std.proofs.Common.{◌≡◌, ◌<◌, length, arith}
use Rattle.srm_crew_tests.proofs.HandedLemmas.{one_more, may_go_on}
use Rattle.srm_crew_tests.proofs.crew_tests.handing.add_job.Goals as goal

pub returns : goal.returns
returns g c =
    let size = c.args.jobs.now.ok.0 in
    let found = c.len-place.ensures in
    let at : c.len-place.result ≡ length c.args.jobs.now.items = omega arith in
    let few = c.if-place-ge-MOST_JOBS.false in
    let lt : length c.args.jobs.now.items < 1024 = omega arith in
    rw c.in_ok-push.ensures.items
    (one_more (λ b. (goal.Member-dyn g (b.vtable, b.value)).plain b.value)
    (length c.args.net.now.hosts) c.args.jobs.now.items _ c.requires.jobs
    at lt (may_go_on (λ b. (goal.Member-dyn g (b.vtable, b.value)).plain b.value) (length c.args.net.now.hosts) _ c.requires.known
    c.requires.till))
